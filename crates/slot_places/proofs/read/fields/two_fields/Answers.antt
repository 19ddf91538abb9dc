use Rattle.std.proofs.Common.{◌≢◌, ◌++◌, None, List, ℕ, take, drop, sym, subst, take-append-drop}
use Rattle.std.specs.Prelude.{codes}
use Rattle.std.proofs.lemmas.Bool.Decides.{Decides-eqb}
use Rattle.std.proofs.lemmas.Slice.Eq.{strip_prefix_is}
use Rattle.line_format.proofs.Lines.{none-so}
use Rattle.slot_places.proofs.EntryLaws.{one_only}
use Rattle.slot_places.proofs.read.fields.two_fields.Goals as goal

pub returns-in_err-second-clause-none : goal.returns-in_err-second-clause-none
returns-in_err-second-clause-none c =
    let text = c.args.text.now in
    let n = c.field_len.result in
    let none = strip_prefix_is Decides-eqb c.split_at.result.1.now (codes " ") None c.in_err-second.ensures.cases in
    let other : (more : List ℕ) → drop n text ≢ codes " " ++ more = subst (λ (l : List ℕ). (more : List ℕ) → l ≢ codes " " ++ more) c.split_at.ensures.back
    none in
    none-so c.from_residual.result _
    (λ first second own is. one_only text (take n text) (drop n text) (sym (take-append-drop n text)) c.field_len.ensures.own c.field_len.ensures.stops other
    first second own is)
