use Rattle.std.specs.Prelude.{None, Some}
use Rattle.auction_model.specs.Book.{market_of}
use Rattle.print_grammar.proofs.JsonLaws.{last-plain, last-turns, same-json}
use Rattle.print_grammar.proofs.one_outcome_json.Goals as goal

pub returns-clause-plain : goal.returns-clause-plain
returns-clause-plain c = λ book z v w p q t u long dp dq same agree these those. same-json book z v w p q dp dq same agree None None
    (last-plain z) t u long these those

pub returns-clause-rounds : goal.returns-clause-rounds
returns-clause-rounds c = λ book weights z v w p q runs others t u long dp dq same agree law a b these those.
    let prices = c.vickrey_prices.ensures.exist (market_of book) z law in
    same-json book z v w p q dp dq same agree (Some runs) (Some others) (last-turns (market_of book) law weights z prices.0 prices.1 runs others a b) t u long
    these those
