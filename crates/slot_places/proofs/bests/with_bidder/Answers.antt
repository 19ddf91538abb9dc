use Rattle.std.proofs.Common.{◌≡◌, ◌∙◌, ◌+◌, sym, arith, subst, inl, inr, IsTrue}
use Rattle.std.proofs.lemmas.Bool.{cases_eq}
use Rattle.auction_model.specs.Market.{number_of}
use Rattle.slot_places.specs.Board.{start_after, starts_at}
use Rattle.slot_places.specs.SetTable.{holds, sum_outside}
use Rattle.slot_places.specs.Steps.{searched, counted}
use Rattle.slot_places.proofs.NumberLaws.{fits-trans, starts-from, starts-says}
use Rattle.slot_places.proofs.bests.with_bidder.Goals as goal
use Rattle.slot_places.proofs.bests.with_bidder.Goals.{then-place-start+in_ok-next-2, else-place-start}

pub loop-i-init : goal.loop-i-init
loop-i-init c =
    let l = c.args.search.now in
    let s = holds c.args.set in
    let new = c.better-best.result.numbers.items in
    let next = c.in_ok-next.next.numbers.items in
    record {
      held = c.better-best.ensures.held;
      kept = c.better-best.ensures.best;
      best = λ x t n low.
          let none : number_of x c.args.j ≡ 0 = omega (arith, low) in
          fits-trans (searched l) (counted l) s new next x c.better-best.ensures.held.fits c.in_ok-next.ensures.held.fits t c.better-best.ensures.next
          (c.in_ok-next.ensures.best x t n none);
    }

pub with_number-requires-then-place-start-clause-may : goal.with_number-requires-then-place-start-clause-may
with_number-requires-then-place-start-clause-may c =
    let slots = c.args.search.now.slots.now in
    starts-from slots (start_after slots (holds c.args.set)) c.args.j c.loop-i.i
    (sym c.place-place.ensures.start ∙ (c.if-place-start.true ∙ c.start-start.ensures))

pub loop-i-preserved : goal.loop-i-preserved
loop-i-preserved c =
    let l = c.args.search.now in
    let slots = l.slots.now in
    let s = holds c.args.set in
    let i = c.loop-i.i in
    let j = c.args.j in
    let V = sum_outside s (counted l) in
    let old = c.loop-i.best.numbers.items in
    let was = c.loop-i.invariant in
    elim c.if-place-start.branch [
      | then-place-start+in_ok-next-2 w ↦
          let new = w.better-best-then-place-start.result.numbers.items in
          let next = w.in_ok-next-2.next.numbers.items in
          let b = w.better-best-then-place-start.ensures in
          let f = w.in_ok-next-2.ensures in
          rw w.best-is (record {
            held = b.held;
            kept = fits-trans (searched l) (counted l) s new old c.args.best.numbers.items b.held.fits was.held.fits c.requires.best.fits b.best was.kept;
            best = λ x t n low.
                elim (cases_eq (number_of x j) (i + 1)) [
                  | inl same ↦ fits-trans (searched l) (counted l) s new next x b.held.fits f.held.fits t b.next (f.best x t n same)
                  | inr other ↦ fits-trans (searched l) (counted l) s new old x b.held.fits was.held.fits t b.best (was.best x t n (omega (arith, low, other)))
                ];
          })
      | else-place-start w ↦
          rw w.best-is (record {
            held = was.held;
            kept = was.kept;
            best = λ x t n low.
                elim (cases_eq (number_of x j) (i + 1)) [
                  | inl same ↦
                      let may : IsTrue (starts_at slots (start_after slots s) j (i + 1)) = subst (λ h. IsTrue (starts_at slots (start_after slots s) j h))
                      same n.may in
                      absurd (w.if-place-start.false (c.place-place.ensures.start
                      ∙ (starts-says slots (start_after slots s) j i may ∙ sym c.start-start.ensures)))
                  | inr other ↦ was.best x t n (omega (arith, low, other))
                ];
          })
    ]
