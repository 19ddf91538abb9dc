use Rattle.std.proofs.Common.{◌≡◌, ◌++◌, Some, arith}
use Rattle.std.specs.Prelude.{codes}
use Rattle.std.proofs.lemmas.Bool.Decides.{Decides-eqb}
use Rattle.std.proofs.lemmas.Slice.Eq.{strip_prefix_is}
use Rattle.line_format.proofs.Lines.{none-so}
use Rattle.slot_places.proofs.EntryLaws.{no_fields, next_fields}
use Rattle.slot_places.proofs.read.entries.read_place.Goals as goal

pub returns-in_err-first-clause-none : goal.returns-in_err-first-clause-none
returns-in_err-first-clause-none c =
    let word : c.args.line.now ≡ codes "place " ++ c.in_ok-fields.fields.now = strip_prefix_is Decides-eqb c.args.line.now (codes "place ")
    (Some c.in_ok-fields.fields) c.in_ok-fields.ensures.cases in
    let band = c.kept.ensures.band in
    none-so c.from_residual-in_err-first.result _ (λ bid next. no_fields c.args.slots.now c.args.line.now c.in_ok-fields.fields.now bid band.1 word
    c.in_err-first.ensures.none next)

pub returns-in_err-start-clause-none : goal.returns-in_err-start-clause-none
returns-in_err-start-clause-none c =
    let word : c.args.line.now ≡ codes "place " ++ c.in_ok-fields.fields.now = strip_prefix_is Decides-eqb c.args.line.now (codes "place ")
    (Some c.in_ok-fields.fields) c.in_ok-fields.ensures.cases in
    let band = c.kept.ensures.band in
    let found = c.in_ok-first.ensures.found in
    none-so c.from_residual-in_err-start.result _
    (λ bid next.
    let parts = next_fields c.args.slots.now c.args.line.now c.in_ok-fields.fields.now c.in_ok-first.first.now c.in_ok-first.second.now bid band.1 word
    found.1 found.0 next in
    let after = next.valid.after in
    let within = next.valid.within in
    let least = c.next_start.ensures in
    let most = c.last_start.ensures in
    c.in_err-start.ensures.none bid.start (omega (arith, after, least)) (omega (arith, within, most)) parts.0)

pub returns-in_err-amount-clause-none : goal.returns-in_err-amount-clause-none
returns-in_err-amount-clause-none c =
    let word : c.args.line.now ≡ codes "place " ++ c.in_ok-fields.fields.now = strip_prefix_is Decides-eqb c.args.line.now (codes "place ")
    (Some c.in_ok-fields.fields) c.in_ok-fields.ensures.cases in
    let band = c.kept.ensures.band in
    let found = c.in_ok-first.ensures.found in
    none-so c.from_residual-in_err-amount.result _
    (λ bid next.
    let parts = next_fields c.args.slots.now c.args.line.now c.in_ok-fields.fields.now c.in_ok-first.first.now c.in_ok-first.second.now bid band.1 word
    found.1 found.0 next in
    c.in_err-amount.ensures.none bid.amount next.valid.top parts.1)
