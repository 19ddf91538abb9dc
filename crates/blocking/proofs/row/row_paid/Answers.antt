use Rattle.std.proofs.Common.{◌≡◌, ℤ, pos, ◌+◌, ◌+ℤ◌, ℕ, Bool, arith, rules, sym, ap, ◌∙◌, slice_index_or, if◌then◌else◌}
use Rattle.std.proofs.lemmas.Int.{to_z-of_z}
use mir.Val.{to_z, of_z}
use mir.Syntax.{w128}
use Rattle.auction_model.specs.Lowered.{of_bidder}
use Rattle.auction_model.specs.Prices.{sum_over}
use Rattle.core_laws.specs.Winners.{idle_row}
use Rattle.blocking.proofs.Parts.{over-step, part-is, next-fits, next-is}
use Rattle.blocking.proofs.Sizes.{row-range, paid-at}
use Rattle.blocking.proofs.row.row_paid.Goals as goal

pub overflow_add-sum : goal.overflow_add-sum
overflow_add-sum g c =
    let m = g.C.Chooser.market c.args.chooser.now in
    let z = g.C.Chooser.chosen c.args.chooser.now in
    let at = c.args.at.now in
    let n = c.loop-k.k in
    let d : to_z w128 (of_z w128 c.args.den) ≡ c.args.den = to_z-of_z w128 c.args.den (search rules) in
    let s : ℕ → Bool = idle_row m z (record { den = c.args.den; at = at }) c.args.choice.now in
    let lt = c.loop-k-test.true in
    let inv : to_z w128 c.loop-k.sum-bits ≡ sum_over s (of_bidder at) n = rw d at c.loop-k.invariant in
    let own : c.part-sum.result ≡ if s (n + 1) then slice_index_or at n (pos 0) else pos 0 = part-is c.is_idle.result (s (n + 1))
    (slice_index_or at n (pos 0)) c.part-sum.result c.part-sum.ensures (rw d at c.is_idle.ensures) (paid-at m z c.args.den at c.requires.look n lt) in
    next-fits (to_z w128 c.loop-k.sum-bits) (sum_over s (of_bidder at) n) c.part-sum.result inv
    (row-range m z c.args.den at c.requires.look s n (omega arith)) (rw (own, ← over-step s at n)
    (row-range m z c.args.den at c.requires.look s (n + 1) (omega arith)))

pub loop-k-preserved : goal.loop-k-preserved
loop-k-preserved g c =
    let m = g.C.Chooser.market c.args.chooser.now in
    let z = g.C.Chooser.chosen c.args.chooser.now in
    let at = c.args.at.now in
    let n = c.loop-k.k in
    let d : to_z w128 (of_z w128 c.args.den) ≡ c.args.den = to_z-of_z w128 c.args.den (search rules) in
    let s : ℕ → Bool = idle_row m z (record { den = c.args.den; at = at }) c.args.choice.now in
    let lt = c.loop-k-test.true in
    let inv : to_z w128 c.loop-k.sum-bits ≡ sum_over s (of_bidder at) n = rw d at c.loop-k.invariant in
    let own : c.part-sum.result ≡ if s (n + 1) then slice_index_or at n (pos 0) else pos 0 = part-is c.is_idle.result (s (n + 1))
    (slice_index_or at n (pos 0)) c.part-sum.result c.part-sum.ensures (rw d at c.is_idle.ensures) (paid-at m z c.args.den at c.requires.look n lt) in
    rw d (next-is (to_z w128 c.loop-k.sum-bits) (sum_over s (of_bidder at) n) c.part-sum.result inv
    (row-range m z c.args.den at c.requires.look s n (omega arith)) (rw (own, ← over-step s at n)
    (row-range m z c.args.den at c.requires.look s (n + 1) (omega arith))) ∙ ap (λ (t : ℤ). sum_over s (of_bidder at) n +ℤ t) own ∙ sym (over-step s at n))

pub returns-clause-value : goal.returns-clause-value
returns-clause-value g c =
    let m = g.C.Chooser.market c.args.chooser.now in
    let z = g.C.Chooser.chosen c.args.chooser.now in
    let at = c.args.at.now in
    let d : to_z w128 (of_z w128 c.args.den) ≡ c.args.den = to_z-of_z w128 c.args.den (search rules) in
    let s : ℕ → Bool = idle_row m z (record { den = c.args.den; at = at }) c.args.choice.now in
    let inv : to_z w128 c.loop-k.sum-bits ≡ sum_over s (of_bidder at) c.loop-k.k = rw d at c.loop-k.invariant in
    let e : c.loop-k.k ≡ m.bidders = omega (arith, c.requires.look.asks.bidders) in
    inv ∙ ap (sum_over s (of_bidder at)) e

pub returns-clause-small : goal.returns-clause-small
returns-clause-small g c =
    let m = g.C.Chooser.market c.args.chooser.now in
    let z = g.C.Chooser.chosen c.args.chooser.now in
    let at = c.args.at.now in
    let d : to_z w128 (of_z w128 c.args.den) ≡ c.args.den = to_z-of_z w128 c.args.den (search rules) in
    let s : ℕ → Bool = idle_row m z (record { den = c.args.den; at = at }) c.args.choice.now in
    let inv : to_z w128 c.loop-k.sum-bits ≡ sum_over s (of_bidder at) c.loop-k.k = rw d at c.loop-k.invariant in
    rw inv (row-range m z c.args.den at c.requires.look s c.loop-k.k (omega arith))
