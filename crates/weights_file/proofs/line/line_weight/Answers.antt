use Rattle.std.proofs.Common.{◌≡◌, ◌++◌, ◌∷◌, List, ℕ, Some, None, sym, ap, ◌∙◌}
use Rattle.std.specs.Prelude.{codes}
use Rattle.std.specs.Fmt.{decimal}
use Rattle.std.proofs.lemmas.Bool.Decides.{Decides-eqb}
use Rattle.std.proofs.lemmas.List.{append_cancel_left}
use Rattle.std.proofs.lemmas.Option.{IfSome_then}
use Rattle.std.proofs.lemmas.Slice.Eq.{strip_prefix_is}
use Rattle.line_format.proofs.Lines.{none-so}
use Rattle.weights_file.proofs.line.line_weight.Goals as goal

pub returns-in_err-behind_name-clause-none : goal.returns-in_err-behind_name-clause-none
returns-in_err-behind_name-clause-none c =
    let word : c.args.line.now ≡ codes "weight " ++ c.in_ok-behind_word.behind_word.now = strip_prefix_is Decides-eqb c.args.line.now (codes "weight ")
    (Some c.in_ok-behind_word.behind_word) c.in_ok-behind_word.ensures.cases in
    let other = strip_prefix_is Decides-eqb c.in_ok-behind_word.behind_word.now c.as_bytes.result.now None c.in_err-behind_name.ensures.cases in
    none-so c.from_residual-in_err-behind_name.result _ (λ w weight spelled.
    other (32 ∷ decimal w) (append_cancel_left (codes "weight ") c.in_ok-behind_word.behind_word.now (c.args.name.now ++ 32 ∷ decimal w) (sym word ∙ spelled)
    ∙ ap (λ (l : List ℕ). l ++ 32 ∷ decimal w) (sym c.as_bytes.ensures.value)))

pub returns-clause-found : goal.returns-clause-found
returns-clause-found c =
    let word : c.args.line.now ≡ codes "weight " ++ c.in_ok-behind_word.behind_word.now = strip_prefix_is Decides-eqb c.args.line.now (codes "weight ")
    (Some c.in_ok-behind_word.behind_word) c.in_ok-behind_word.ensures.cases in
    let name : c.in_ok-behind_word.behind_word.now ≡ c.as_bytes.result.now ++ c.in_ok-behind_name.behind_name.now =
    strip_prefix_is Decides-eqb c.in_ok-behind_word.behind_word.now c.as_bytes.result.now (Some c.in_ok-behind_name.behind_name)
    c.in_ok-behind_name.ensures.cases in
    let space : c.in_ok-behind_name.behind_name.now ≡ codes " " ++ c.in_ok-field.field.now = strip_prefix_is Decides-eqb c.in_ok-behind_name.behind_name.now
    (codes " ") (Some c.in_ok-field.field) c.in_ok-field.ensures.cases in
    IfSome_then c.read_weight.result c.read_weight.ensures.found (λ w ok. (
      ok.0,
      word ∙ ap (λ (l : List ℕ). codes "weight " ++ l) (name ∙ ap (λ (l : List ℕ). l ++ c.in_ok-behind_name.behind_name.now) c.as_bytes.ensures.value
          ∙ ap (λ (l : List ℕ). c.args.name.now ++ l) (space ∙ ap (λ (l : List ℕ). 32 ∷ l) ok.1)),
    ))
