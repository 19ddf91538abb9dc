use Rattle.std.proofs.Common.{◌∙◌, ap, sym, List, ℕ, FitsSigned, of_z, rules, to_z}
use Rattle.std.specs.Int.{w128}
use Rattle.std.proofs.lemmas.Int.{to_z-of_z}
use Rattle.auction_model.specs.Book.{market_of}
use Rattle.auction_model.specs.Market.{value_of}
use Rattle.outcome.proofs.StateLines.{state_put}
use Rattle.outcome.proofs.reviewing.lines.add_state.Goals as goal

pub returns : goal.returns
returns c =
    let book = c.args.review.now.book in
    let z = c.choice-choice.result.now in
    let fits : FitsSigned w128 c.net.result = search rules in
    state_put c.args.text.now c.add_value.new.text c.add_choice.new.text c.args.n book z c.numbers.result.now (to_z w128 (of_z w128 c.net.result))
    c.in_ok-add_value.ensures c.in_ok-add_choice.ensures
    (to_z-of_z w128 c.net.result fits ∙ c.net.ensures ∙ ap (λ (k : List ℕ). value_of (market_of book) k) (sym c.choice-choice.ensures.choice))
    c.numbers.ensures c.choice-choice.ensures.winning
