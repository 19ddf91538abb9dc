use Rattle.std.proofs.Common.{rules, ◌≡◌, pos}
use Rattle.print_grammar.specs.Prices.{reserve_of}
use Rattle.outcome.proofs.Reserves.{reserve-most}
use Rattle.outcome.proofs.prices.reserve.Goals as goal

pub returns-clause-small : goal.returns-clause-small
returns-clause-small c =
    let is : pos c.cost.result ≡ reserve_of c.args.book.now c.args.j c.args.i = search rules in
    reserve-most c.args.book.now c.args.j c.args.i c.cost.result c.bid-bid.ensures.kept c.requires.bid.0 c.requires.bid.1 is
