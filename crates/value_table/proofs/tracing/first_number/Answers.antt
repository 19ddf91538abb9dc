use Rattle.std.proofs.Common.{map, ◌≡◌, ◌∙◌, ◌<◌, ◌≤◌, ◌+◌, ℕ, IsTrue, sym, ap, refl, arith, rules, below_more, ℤ, ◌<ℤ◌, ◌≤ℤ◌}
use Rattle.std.proofs.lemmas.Int.{to_z-of_z, ints, by_lt_z}
use Rattle.std.proofs.lemmas.Bool.{false≢true}
use Rattle.auction_model.specs.Package.{is_within}
use Rattle.auction_model.specs.Place.{left_at}
use Rattle.auction_model.specs.Steps.{sum_with}
use Rattle.auction_model.proofs.WalkLaws.{number-bounds, number-found, number-none}
use Rattle.value_table.specs.Counted.{counted_bids, counted}
use mir.Val.{SFits, to_z, of_z}
use mir.Syntax.{w128}
use Rattle.value_table.proofs.tracing.first_number.Goals as goal
use Rattle.value_table.proofs.tracing.first_number.Goals.{in-Some+else-sum-here, in_default}

same_bits : (a b : ℤ) → SFits w128 a → SFits w128 b → of_z w128 a ≡ of_z w128 b → a ≡ b
same_bits a b f g e = sym (to_z-of_z w128 a f) ∙ ap (to_z w128) e ∙ to_z-of_z w128 b g

below_from_other : (a b : ℤ) → a ≤ℤ b → (a ≡ b → ⊥) → a <ℤ b
below_from_other a b h ne = by_lt_z a b (λ lt. lt) (λ ge. absurd (ne (omega (arith, ints))))

pub returns-then-sum-here-clause-first : goal.returns-then-sum-here-clause-first
returns-then-sum-here-clause-first g c =
    let l = c.args.lowered.now in
    let here_fits : SFits w128 c.args.here = search rules in
    let sum_fits : SFits w128 c.in-Some.sum = search rules in
    let here_same = to_z-of_z w128 c.args.here here_fits in
    let reached : c.in-Some.sum ≡ c.args.here = same_bits c.in-Some.sum c.args.here sum_fits here_fits c.if-sum-here.true in
    number-found (counted_bids l) (counted l) l.book.now.supply c.args.j c.args.place c.requires.bidder.0 c.requires.bidder.1 c.requires.place
    c.args.here (map g.C.Cell.number c.args.below.now) c.requires.here c.requires.below
    c.loop-i.i c.in-Some.ensures.fits (sym reached ∙ c.in-Some.ensures.sum) (rw here_same at c.loop-i.invariant)

pub loop-i-preserved : goal.loop-i-preserved
loop-i-preserved g c =
    let l = c.args.lowered.now in
    let m = counted_bids l in
    let counts = counted l in
    let supply = l.book.now.supply in
    let here_fits : SFits w128 c.args.here = search rules in
    let here_same = to_z-of_z w128 c.args.here here_fits in
    let known : c.loop-i.i + 1 ≤ m.bids c.args.j = omega (arith, c.bids-i-end.ensures.bids) in
    let sum_of = sum_with m counts supply c.args.j c.args.place (map g.C.Cell.number c.args.below.now) in
    let was : (h : ℕ) → h < c.loop-i.i → IsTrue (is_within (m.lots c.args.j (h + 1)) (left_at supply c.args.place)) → sum_of (h + 1) <ℤ c.args.here =
    rw here_same at c.loop-i.invariant in
    rw here_same
    (below_more (λ h. IsTrue (is_within (m.lots c.args.j (h + 1)) (left_at supply c.args.place)) → sum_of (h + 1) <ℤ c.args.here) c.loop-i.i was
    (elim c.match-sum_at.branch [
      | in-Some+else-sum-here w ↦ λ own.
          below_from_other (sum_of (c.loop-i.i + 1)) c.args.here
          (number-bounds m counts supply c.args.j c.args.place c.requires.bidder.0 c.requires.bidder.1 c.requires.place c.args.here
          (map g.C.Cell.number c.args.below.now) c.requires.here c.requires.below (c.loop-i.i + 1) known own)
          (λ e. w.if-sum-here.false (ap (of_z w128) (w.in-Some.ensures.sum ∙ e)))
      | in_default w ↦ λ own. absurd (false≢true (sym w.in_default.ensures.exceeds ∙ own))
    ]))

pub returns-clause-first : goal.returns-clause-first
returns-clause-first g c =
    let l = c.args.lowered.now in
    let here_fits : SFits w128 c.args.here = search rules in
    let here_same = to_z-of_z w128 c.args.here here_fits in
    let all : c.loop-i.i ≡ (counted_bids l).bids c.args.j = omega (arith, c.bids-i-end.ensures.bids) in
    number-none (counted_bids l) (counted l) l.book.now.supply c.args.j c.args.place c.requires.bidder.0 c.requires.bidder.1 c.requires.place
    c.args.here (map g.C.Cell.number c.args.below.now) c.requires.here c.requires.below
    refl (rw all at (rw here_same at c.loop-i.invariant))
