use Rattle.std.proofs.Common.{◌≡◌, ◌∙◌, ◌-◌, ◌^◌, ◌≤◌, length, sym, ap, arith, rules, subst, set, unsigned_abs, IsTrue, ℤ, ◌+ℤ◌}
use Rattle.std.proofs.lemmas.Int.{to_z-of_z, fits_signed_from_abs}
use Rattle.slot_places.specs.SetTable.{holds, sum_outside, fits_behind}
use Rattle.slot_places.specs.Steps.{searched, counted, IsBefore}
use Rattle.slot_places.proofs.SameLaws.{slots-ask}
use Rattle.slot_places.proofs.NumberLaws.{idle-always, step-length, step-fits, step-sum, step-best, step-own, step-whole}
use mir.Val.{SFits}
use mir.Syntax.{w128}
use Rattle.slot_places.proofs.bests.with_number.Goals as goal

pub index_mut-requires : goal.index_mut-requires
index_mut-requires c =
    let l = c.args.search.now in
    let count = step-length (searched l) (slots-ask l.slots.now l.skip) (idle-always l.slots.now l.skip)
    (counted l) c.args.set c.args.j c.requires.bidder.0 c.requires.bidder.1 c.requires.new c.args.behind.now.numbers.items c.requires.behind.first in
    let same : length c.deref.result.now ≡ length c.args.behind.now.numbers.items = ap length c.deref.ensures.value in
    omega (arith, count, same, c.in_ok-numbers.ensures.len)

pub worth-requires-clause-size : goal.worth-requires-clause-size
worth-requires-clause-size c =
    let l = c.args.search.now in
    step-own l.slots.now l.skip l.den l.surplus.now l.range c.args.set c.args.j c.requires.set c.requires.bidder.0 c.requires.bidder.1 c.requires.new
    c.args.behind.now.numbers.items c.requires.behind.first c.args.i c.requires.bid c.requires.may

-- the sum of the code is that of the choice
total : (c : goal.After-sum-1) → c.worth.result +ℤ c.args.behind.now.sum ≡ sum_outside (holds c.args.set) (counted c.args.search.now)
    (set c.args.behind.now.numbers.items (c.args.j - 1) c.args.i)
total c =
    let l = c.args.search.now in
    let is = step-sum (searched l) (slots-ask l.slots.now l.skip) (idle-always l.slots.now l.skip) (counted l) c.args.set c.args.j c.requires.bidder.0
    c.requires.bidder.1 c.requires.new c.args.behind.now.numbers.items c.requires.behind.first c.args.i in
    ap (λ (x : ℤ). x +ℤ c.args.behind.now.sum) c.worth.ensures.worth ∙ (ap (λ (x : ℤ). counted l c.args.j c.args.i +ℤ x) c.requires.behind.sum ∙ sym is)

total_fits : (c : goal.After-sum-1) → SFits w128 (c.worth.result +ℤ c.args.behind.now.sum)
total_fits c =
    let l = c.args.search.now in
    let size = step-whole l.slots.now l.skip l.den l.surplus.now l.range c.args.set c.args.j c.requires.set c.requires.bidder.0 c.requires.bidder.1
    c.requires.new c.args.behind.now.numbers.items c.requires.behind.first c.args.i c.requires.bid c.requires.may in
    let small : unsigned_abs (c.worth.result +ℤ c.args.behind.now.sum) ≤ 2 ^ 120 = subst (λ (x : ℤ). unsigned_abs x ≤ 2 ^ 120) (sym (total c)) size in
    fits_signed_from_abs w128 (c.worth.result +ℤ c.args.behind.now.sum) (omega (arith, small))

pub overflow_add-sum : goal.overflow_add-sum
overflow_add-sum c =
    let worth_fits : SFits w128 c.worth.result = search rules in
    let behind_fits : SFits w128 c.args.behind.now.sum = search rules in
    rw (to_z-of_z w128 c.worth.result worth_fits, to_z-of_z w128 c.args.behind.now.sum behind_fits) (total_fits c)

pub returns-clause-held : goal.returns-clause-held
returns-clause-held c =
    let l = c.args.search.now in
    let d = c.args.behind.now.numbers.items in
    let e : c.in_ok-numbers.numbers.items ≡ d = c.in_ok-numbers.ensures.items ∙ c.deref.ensures.value in
    let worth_fits : SFits w128 c.worth.result = search rules in
    let behind_fits : SFits w128 c.args.behind.now.sum = search rules in
    let fits = step-fits (searched l) (slots-ask l.slots.now l.skip) (idle-always l.slots.now l.skip)
    (counted l) c.args.set c.args.j c.requires.bidder.0 c.requires.bidder.1 c.requires.new d c.requires.behind.first c.args.i c.requires.bid
    c.requires.may in
    record {
      fits = subst (λ xs. IsTrue (fits_behind (searched l) (holds c.args.set) (set xs (c.args.j - 1) c.args.i))) (sym e) fits;
      sum = rw (
        to_z-of_z w128 c.worth.result worth_fits,
        to_z-of_z w128 c.args.behind.now.sum behind_fits,
        to_z-of_z w128 (c.worth.result +ℤ c.args.behind.now.sum) (total_fits c),
        e,
      ) (total c);
    }

pub returns-clause-best : goal.returns-clause-best
returns-clause-best c =
    let l = c.args.search.now in
    let d = c.args.behind.now.numbers.items in
    let e : c.in_ok-numbers.numbers.items ≡ d = c.in_ok-numbers.ensures.items ∙ c.deref.ensures.value in
    λ x t next is.
    subst (λ xs. IsBefore (sum_outside (holds c.args.set) (counted l)) (set xs (c.args.j - 1) c.args.i) x) (sym e)
    (step-best (searched l) (slots-ask l.slots.now l.skip) (idle-always l.slots.now l.skip) (counted l) c.args.set c.args.j c.requires.bidder.0
    c.requires.bidder.1 c.requires.new d c.requires.behind.first c.args.i x t next is)
