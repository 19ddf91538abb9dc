use Rattle.std.proofs.Common.{inr, ◌≡◌, ◌≢◌, ◌∙◌, true, Err, ap, refl, sym}
use Rattle.std.specs.Prelude.{codes}
use Rattle.std.proofs.lemmas.Result.{err_from_is_err_and}
use Rattle.std.proofs.lemmas.Bool.Decides.{Decides-eqb}
use Rattle.std.proofs.lemmas.Slice.Eq.{slice_eq-Decides}
use Rattle.line_format.specs.declared.stop.LineStop.TheVariants.{Form, Limit, Memory}
use Rattle.slot_places.specs.declared.read.Stage.TheVariants.{Listing}
use Rattle.slot_places.proofs.EntryLaws.{adds_step}
use Rattle.slot_places.proofs.read.take_listed.Goals as goal

pub returns-in_err-take_entry-clause-form : goal.returns-in_err-take_entry-clause-form
returns-in_err-take_entry-clause-form c = λ err t step.
    let p = err_from_is_err_and c.from_residual.result c.from_residual.ensures.1 in
    let form : c.in_err-take_entry.field-0.0 ≡ Form = cc (p.1, p.2, err) in
    let decides = slice_eq-Decides Decides-eqb c.args.line.now c.as_slice.result.now c.eq.result c.eq.ensures in
    let other : c.args.line.now ≢ codes "end" = λ same. let yes : c.eq.result ≡ true = decides.1 (same ∙ sym c.as_slice.ensures) in cc in
    let adds = adds_step c.args.slots c.args.line.now t other step in
    c.in_err-take_entry.ensures.form (ap Err form) adds.0 adds.1

pub returns-in_err-take_entry-clause-limit : goal.returns-in_err-take_entry-clause-limit
returns-in_err-take_entry-clause-limit c = λ kind count err.
    let p = err_from_is_err_and c.from_residual.result c.from_residual.ensures.1 in
    let limit : c.in_err-take_entry.field-0.0 ≡ Limit (kind, count) = cc (p.1, p.2, err) in
    let over = c.in_err-take_entry.ensures.limit kind count (ap Err limit) in
    (Listing over.0, inr (over.0, over.1, refl), over.2)

pub returns-in_err-take_entry-clause-memory : goal.returns-in_err-take_entry-clause-memory
returns-in_err-take_entry-clause-memory c = λ err.
    let p = err_from_is_err_and c.from_residual.result c.from_residual.ensures.1 in
    let memory : c.in_err-take_entry.field-0.0 ≡ Memory = cc (p.1, p.2, err) in
    let within = c.in_err-take_entry.ensures.memory (ap Err memory) in
    (Listing within.0, inr (within.0, within.1, refl), within.2)
