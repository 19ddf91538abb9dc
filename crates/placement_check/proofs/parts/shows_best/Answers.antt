use Rattle.std.proofs.Common.{◌∙◌, ◌^◌, sym, subst, length, arith, List, ℕ}
use Rattle.std.specs.Prelude.{IsTrue}
use Rattle.std.proofs.lemmas.Bool.{false≢true}
use Rattle.slot_places.specs.Orders.{allows}
use Rattle.slot_places.proofs.SetBits.{power-positive}
use Rattle.placement_check.proofs.SetTests.{never}
use Rattle.placement_check.proofs.SetTables.{sets-width}
use Rattle.placement_check.proofs.parts.shows_best.Goals as goal

pub returns-then-number-ne0 : goal.returns-then-number-ne0
returns-then-number-ne0 c = never (λ part. c.if-number-ne0.true (c.number.ensures ∙ part.unused))

pub returns-then-not-allows : goal.returns-then-not-allows
returns-then-not-allows c = never (λ part. false≢true (sym c.if-not-allows.true ∙ c.allows.ensures ∙ subst
    (λ (l : List ℕ). IsTrue (allows c.args.slots.now l c.args.part.now.choice)) (sym c.items.ensures) part.allowed))

pub entry-requires-clause-place : goal.entry-requires-clause-place
entry-requires-clause-place c =
    let n = length c.args.slots.now.bidders in
    let width = sets-width (2 ^ n) c.args.part.now.table c.requires.table in
    let some = power-positive n in
    omega (arith, width, some)
