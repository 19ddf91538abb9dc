use Rattle.std.proofs.Common.{◌≡◌, ◌∙◌, ℕ, None, arith, rules, subst, List}
use Rattle.std.specs.Fmt.{decimal}
use Rattle.cca_cli.specs.Command.{number_said}
use Rattle.cca_cli.proofs.Numbers.{none-said, says, too-large}
use Rattle.cca_cli.proofs.words.number_of.Goals as goal

pub returns : goal.returns
returns c =
    let same : c.as_bytes.result.now ≡ c.args.word.now = search rules in
    says c.args.word.now c.in_ok-number.number (omega arith) (subst (λ (w : List ℕ). w ≡ decimal c.in_ok-number.number) same c.in_ok-number.ensures.found.1)

pub returns-then-number-gt-MOST_NUMBER : goal.returns-then-number-gt-MOST_NUMBER
returns-then-number-gt-MOST_NUMBER c =
    let same : c.as_bytes.result.now ≡ c.args.word.now = search rules in
    too-large c.args.word.now c.in_ok-number.number c.in_ok-number.ensures.found.0 (omega arith)
    (subst (λ (w : List ℕ). w ≡ decimal c.in_ok-number.number) same c.in_ok-number.ensures.found.1)

pub returns-in_err-number : goal.returns-in_err-number
returns-in_err-number c =
    let same : c.as_bytes.result.now ≡ c.args.word.now = search rules in
    let stops : c.from_residual.result ≡ None = search rules in
    stops ∙ subst (λ (w : List ℕ). None ≡ number_said w) same (none-said c.as_bytes.result.now c.in_err-number.ensures.none)
