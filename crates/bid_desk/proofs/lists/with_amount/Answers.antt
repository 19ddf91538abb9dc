-- What is known of two lists once an amount is set in the first.
use Rattle.std.proofs.Common.{◌∙◌, ℕ, Some, ap, sym, subst}
use Rattle.bid_desk.specs.Differences.{Differs, IsSameButAt}
use Rattle.bid_desk.specs.declared.difference.Difference.{Difference}
use Rattle.bid_desk.proofs.DifferenceLaws.{same-set, but-again}
use Rattle.bid_desk.proofs.lists.with_amount.Goals as goal

pub returns-in-Nothing-Some : goal.returns-in-Nothing-Some
returns-in-Nothing-Some c = λ old new others differs sets.
    let set = sets c.in-Nothing-Some.place c.in-Nothing-Some.is-1 in
    same-set old others new c.in-Nothing-Some.place set.0 (subst (λ (d : Difference). Differs d old others) c.in-Nothing-Some.is-0 differs) set.1

pub returns-in-AmountAt-Some : goal.returns-in-AmountAt-Some
returns-in-AmountAt-Some c = λ old new others differs sets.
    let was : IsSameButAt c.in-AmountAt-Some.at old others = subst (λ (d : Difference). Differs d old others) c.in-AmountAt-Some.is-0 differs in
    let set = sets c.in-AmountAt-Some.at (c.in-AmountAt-Some.is-1 ∙ sym (ap (λ (n : ℕ). Some n) c.if-at-place.true)) in
    but-again old others new c.in-AmountAt-Some.at set.0 was set.1
