use Rattle.std.proofs.Common.{◌≡◌, ◌∙◌, ◌+◌, ◌≤◌, length, arith, rules, sym, subst, inl, inr, true}
use Rattle.std.proofs.lemmas.Bool.{cases_eq, false≢true}
use Rattle.slot_places.specs.SetTable.{holds}
use Rattle.slot_places.specs.Steps.{searched, counted, IsBestNext}
use Rattle.slot_places.proofs.SetBits.{outside-positive}
use Rattle.slot_places.proofs.StepLaws.{fits-says}
use Rattle.slot_places.proofs.MarketLaws.{placed-number}
use Rattle.slot_places.proofs.WholeLaws.{best-by_next}
use Rattle.slot_places.proofs.NumberLaws.{idle-always, fits-trans}
use Rattle.slot_places.proofs.bests.best_after.Goals as goal
use Rattle.slot_places.proofs.bests.best_after.Goals.{then-not-is_in+in_ok-best-2, else-not-is_in}

pub loop-k-init : goal.loop-k-init
loop-k-init c = record {
  held = c.in_ok-best.ensures.held;
  best = λ h low x t n known. absurd (omega (arith, low, n.some));
}

pub loop-k-preserved : goal.loop-k-preserved
loop-k-preserved c =
    let l = c.args.search.now in
    let s = holds c.args.set in
    let k = c.loop-k.k in
    let old = c.loop-k.best.numbers.items in
    let was = c.loop-k.invariant in
    elim c.if-not-is_in.branch [
      | then-not-is_in+in_ok-best-2 w ↦
          let f = w.in_ok-best-2.ensures in
          let new = w.in_ok-best-2.best.numbers.items in
          rw w.best-is (record {
            held = f.held;
            best = λ h low x t n known.
                elim (cases_eq h (k + 1)) [
                  | inl same ↦ subst (λ j. IsBestNext l c.args.set j (λ i. i ≤ (searched l).bids j) new) (sym same) f.best x t n known
                  | inr other ↦ fits-trans (searched l) (counted l) s new old x f.held.fits was.held.fits t f.kept
                      (was.best h (omega (arith, low, other)) x t n known)
                ];
          })
      | else-not-is_in w ↦
          let in_set : s (k + 1) ≡ true = search rules in
          rw w.best-is (record {
            held = was.held;
            best = λ h low x t n known.
                elim (cases_eq h (k + 1)) [
                  | inl same ↦ absurd (false≢true (sym n.new ∙ subst (λ j. s j ≡ true) (sym same) in_set))
                  | inr other ↦ was.best h (omega (arith, low, other)) x t n known
                ];
          })
    ]

pub returns : goal.returns
returns c =
    let l = c.args.search.now in
    let slots = l.slots.now in
    let b = searched l in
    let idle = idle-always slots l.skip in
    let was = c.loop-k.invariant in
    let all : c.loop-k.k ≡ length slots.bidders = omega arith in
    record {
      first = best-by_next b idle (counted l) (holds c.args.set) c.loop-k.best.numbers.items
          (outside-positive (length slots.bidders) c.args.set c.requires.set) was.held.fits
          (λ d j t n. was.best j (let low = n.low in omega (arith, low, all)) d t n
          (placed-number b idle d j (fits-says b (holds c.args.set) d t).known n.some n.low));
      sum = was.held.sum;
    }
