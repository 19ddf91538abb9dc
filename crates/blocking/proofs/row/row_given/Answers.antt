use Rattle.std.proofs.Common.{◌≡◌, ◌+ℤ◌, ◌∙◌, arith, rules}
use Rattle.std.proofs.lemmas.Int.{ints, to_z-of_z}
use mir.Val.{to_z, of_z}
use mir.Syntax.{w128}
use Rattle.auction_model.specs.Lowered.{of_bidder}
use Rattle.auction_model.specs.Prices.{sum_over}
use Rattle.core_laws.specs.Winners.{idle_row}
use Rattle.blocking.proofs.Parts.{small-fits}
use Rattle.blocking.proofs.Taking.{row-total}
use Rattle.blocking.proofs.row.row_given.Goals as goal

pub overflow_add-excess : goal.overflow_add-excess
overflow_add-excess g c =
    let m = g.C.Chooser.market c.args.chooser.now in
    let z = g.C.Chooser.chosen c.args.chooser.now in
    let at = c.args.at.now in
    let d : to_z w128 (of_z w128 c.args.den) ≡ c.args.den = to_z-of_z w128 c.args.den (search rules) in
    let x : to_z w128 (of_z w128 c.args.excess) ≡ c.args.excess = to_z-of_z w128 c.args.excess (search rules) in
    let r : to_z w128 (of_z w128 c.row_paid-paid.result) ≡ c.row_paid-paid.result = to_z-of_z w128 c.row_paid-paid.result (search rules) in
    let is : c.row_paid-paid.result ≡ sum_over (idle_row m z (record { den = c.args.den; at = at }) c.args.choice.now) (of_bidder at) m.bidders =
    rw d at c.row_paid-paid.ensures.value in
    let t = row-total m (g.met.C.Chooser.lawful c.args.chooser.now) z (g.met.C.Chooser.winning c.args.chooser.now) c.args.den at c.requires.look
    c.args.choice.now c.args.excess c.row_paid-paid.result c.requires.found is in
    rw (x, r) (small-fits (c.args.excess +ℤ c.row_paid-paid.result) (omega (arith, ints, t.0)) (omega (arith, ints, t.1)))

pub exact_quotient-bound-requires-clause-total : goal.exact_quotient-bound-requires-clause-total
exact_quotient-bound-requires-clause-total g c =
    let m = g.C.Chooser.market c.args.chooser.now in
    let z = g.C.Chooser.chosen c.args.chooser.now in
    let at = c.args.at.now in
    let d : to_z w128 (of_z w128 c.args.den) ≡ c.args.den = to_z-of_z w128 c.args.den (search rules) in
    let x : to_z w128 (of_z w128 c.args.excess) ≡ c.args.excess = to_z-of_z w128 c.args.excess (search rules) in
    let r : to_z w128 (of_z w128 c.row_paid-paid.result) ≡ c.row_paid-paid.result = to_z-of_z w128 c.row_paid-paid.result (search rules) in
    let is : c.row_paid-paid.result ≡ sum_over (idle_row m z (record { den = c.args.den; at = at }) c.args.choice.now) (of_bidder at) m.bidders =
    rw d at c.row_paid-paid.ensures.value in
    let t = row-total m (g.met.C.Chooser.lawful c.args.chooser.now) z (g.met.C.Chooser.winning c.args.chooser.now) c.args.den at c.requires.look
    c.args.choice.now c.args.excess c.row_paid-paid.result c.requires.found is in
    let y : to_z w128 (of_z w128 (c.args.excess +ℤ c.row_paid-paid.result)) ≡ c.args.excess +ℤ c.row_paid-paid.result =
    to_z-of_z w128 (c.args.excess +ℤ c.row_paid-paid.result) (small-fits (c.args.excess +ℤ c.row_paid-paid.result) (omega (arith, ints, t.0))
    (omega (arith, ints, t.1))) in
    rw (x, r, y) t.0

pub returns-clause-bound : goal.returns-clause-bound
returns-clause-bound g c =
    let m = g.C.Chooser.market c.args.chooser.now in
    let z = g.C.Chooser.chosen c.args.chooser.now in
    let at = c.args.at.now in
    let d : to_z w128 (of_z w128 c.args.den) ≡ c.args.den = to_z-of_z w128 c.args.den (search rules) in
    let x : to_z w128 (of_z w128 c.args.excess) ≡ c.args.excess = to_z-of_z w128 c.args.excess (search rules) in
    let r : to_z w128 (of_z w128 c.row_paid-paid.result) ≡ c.row_paid-paid.result = to_z-of_z w128 c.row_paid-paid.result (search rules) in
    let is : c.row_paid-paid.result ≡ sum_over (idle_row m z (record { den = c.args.den; at = at }) c.args.choice.now) (of_bidder at) m.bidders =
    rw d at c.row_paid-paid.ensures.value in
    let t = row-total m (g.met.C.Chooser.lawful c.args.chooser.now) z (g.met.C.Chooser.winning c.args.chooser.now) c.args.den at c.requires.look
    c.args.choice.now c.args.excess c.row_paid-paid.result c.requires.found is in
    let y : to_z w128 (of_z w128 (c.args.excess +ℤ c.row_paid-paid.result)) ≡ c.args.excess +ℤ c.row_paid-paid.result =
    to_z-of_z w128 (c.args.excess +ℤ c.row_paid-paid.result) (small-fits (c.args.excess +ℤ c.row_paid-paid.result) (omega (arith, ints, t.0))
    (omega (arith, ints, t.1))) in
    let back : to_z w128 (of_z w128 c.exact_quotient-bound.result) ≡ c.exact_quotient-bound.result =
    to_z-of_z w128 c.exact_quotient-bound.result (search rules) in
    back ∙ c.exact_quotient-bound.ensures _ (rw (d, x, r, y) t.2)
