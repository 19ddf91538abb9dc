use Rattle.std.proofs.Common.{ℕ, subst, ◌<◌, ◌≤◌, ◌≤ℤ◌, arith, rules, length, pos}
use Rattle.std.proofs.lemmas.Int.{to_z-of_z, ints}
use Rattle.auction_model.specs.Book.{bids_of}
use Rattle.bid_book.specs.Better.{IsBetter}
use Rattle.value_table.specs.Counted.{seat, counted}
use Rattle.value_table.proofs.NarrowLaws.{counted-fewer}
use Rattle.value_table.proofs.Needless.{needless-better, needless-idle, idle-sign}
use mir.Val.{SFits}
use mir.Syntax.{w128}
use Rattle.value_table.proofs.lowered_bids.LoweredBids.is_needless.Goals as goal

pub better-requires-clause-bid : goal.better-requires-clause-bid
better-requires-clause-bid c =
    let l = c.args.self.now in
    let known : c.args.i ≤ length (bids_of l.book.now (seat l c.args.j)) = omega (arith, c.requires.bid.1, counted-fewer l c.args.j) in
    (c.requires.bid.0, rw c.bidder.ensures.bidder known)

pub returns-then-better-ne0-clause-needless : goal.returns-then-better-ne0-clause-needless
returns-then-better-ne0-clause-needless c = λ _.
    let l = c.args.self.now in
    let den_fits : SFits w128 l.den = search rules in
    let test = simp to_z-of_z at c.if-self-ge0.true in
    let den : pos 0 ≤ℤ l.den = grind (arith, ints, test) in
    let some : 0 < c.better.result = omega (arith, c.if-better-ne0.true) in
    let known : c.args.i ≤ length (bids_of l.book.now (seat l c.args.j)) = omega (arith, c.requires.bid.1, counted-fewer l c.args.j) in
    needless-better l c.args.j c.args.i c.better.result c.kept.ensures known some den
    (subst (λ (j : ℕ). IsBetter l.book.now j c.args.i c.better.result) c.bidder.ensures.bidder (c.better.ensures some))

pub returns-clause-needless : goal.returns-clause-needless
returns-clause-needless c = λ test.
    let l = c.args.self.now in
    let worth_fits : SFits w128 c.worth.result = search rules in
    let idle_fits : SFits w128 c.idle.result = search rules in
    let low = simp to_z-of_z at test in
    let le : counted l c.args.j c.args.i ≤ℤ counted l c.args.j 0 = grind (arith, ints, low, c.worth.ensures.worth, c.idle.ensures.worth) in
    needless-idle l c.args.j c.args.i c.requires.bid.0 le

pub returns-clause-sign : goal.returns-clause-sign
returns-clause-sign c = λ test.
    let l = c.args.self.now in
    let worth_fits : SFits w128 c.worth.result = search rules in
    let idle_fits : SFits w128 c.idle.result = search rules in
    let high = simp to_z-of_z at test in
    grind (arith, ints, high, c.worth.ensures.worth, c.idle.ensures.worth, idle-sign l c.args.j)
