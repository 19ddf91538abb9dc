use Rattle.std.proofs.Common.{◌≡◌, ◌<◌, ◌^◌, ◌++◌, Some, take, drop, sym, ◌∙◌, take-append-drop, rules}
use Rattle.std.specs.Prelude.{codes}
use Rattle.std.proofs.lemmas.Bool.Decides.{Decides-eqb}
use Rattle.std.proofs.lemmas.Slice.Eq.{strip_prefix_is}
use Rattle.line_format.proofs.Lines.{none-so}
use Rattle.edits_file.proofs.FieldLaws.{number_field}
use Rattle.edits_file.proofs.fields.first_number.Goals as goal

pub returns-in_err-number-clause-none : goal.returns-in_err-number-clause-none
returns-in_err-number-clause-none c =
    let n = c.field_len.result in
    let behind = c.in_ok-behind.behind.now in
    let fits : c.args.most < 2 ^ 64 = search rules in
    let spaced : c.args.text.now ≡ codes " " ++ c.in_ok-behind.behind.now = strip_prefix_is Decides-eqb c.args.text.now (codes " ")
    (Some c.in_ok-behind.behind) c.in_ok-behind.ensures.cases in
    none-so c.from_residual-in_err-number.result _
    (λ number rest is.
    let parts = number_field c.args.text.now behind (take n behind) (drop n behind) rest number c.args.most spaced
    (sym (take-append-drop n behind)) c.field_len.ensures.own c.field_len.ensures.stops fits is in
    c.in_err-number.ensures.none number is.low (c.split_at.ensures.front ∙ parts.0))
