use Rattle.std.proofs.Common.{◌≡◌, ◌∙◌, ◌-◌, ◌^◌, length, replicate, rules, sym, subst, ap}
use Rattle.slot_places.specs.SetTable.{holds, sum_outside, IsSetBest}
use Rattle.slot_places.specs.Steps.{searched, counted}
use Rattle.slot_places.proofs.SetBits.{holds-everyone}
use Rattle.slot_places.proofs.WholeLaws.{best-full, sum-full}
use Rattle.slot_places.proofs.NumberLaws.{idle-always}
use Rattle.slot_places.proofs.bests.last_best.Goals as goal

pub returns : goal.returns
returns c =
    let l = c.args.search.now in
    let slots = l.slots.now in
    let n = length slots.bidders in
    let b = searched l in
    let s = holds (2 ^ n - 1) in
    let zeros : c.in_ok-numbers.numbers.items ≡ replicate n 0 = search rules in
    record {
      first = subst (λ xs. IsSetBest b (counted l) s xs) (sym zeros) (best-full b (idle-always slots l.skip) (counted l) s (holds-everyone n));
      sum = sym (ap (sum_outside s (counted l)) zeros ∙ sum-full b (idle-always slots l.skip) (counted l) s (holds-everyone n));
    }
