use Rattle.std.proofs.Common.{rules, ◌≡◌, ◌∙◌, ap, subst, ◌++◌, ◌∷◌, List, ℕ, ℤ, codes, FitsSigned}
use Rattle.std.specs.Fmt.{decimal}
use Rattle.std.specs.Int.{w128}
use Rattle.std.proofs.lemmas.Int.{to_z-of_z}
use Rattle.outcome.specs.Turns.{AreFractions, Grows}
use Rattle.outcome.proofs.TurnLaws.{turn-line}
use Rattle.outcome.proofs.turns.add_turn.Goals as goal

pub returns : goal.returns
returns c =
    let t = c.args.turn.now in
    let fits : FitsSigned w128 c.args.turn.now.den = search rules in
    let front : c.add-2.new.self ≡ ((c.args.text.now ++ codes "round") ++ 32 ∷ decimal c.args.number) ++ codes " point" =
    c.in_ok-add-2.ensures ∙ ap (λ (l : List ℕ). l ++ codes " point") (c.in_ok-add_number.ensures ∙ ap
    (λ (l : List ℕ). l ++ 32 ∷ decimal c.args.number) c.in_ok-add.ensures) in
    let paid = c.in_ok-add_payments.ensures in
    let are : AreFractions t.den t.at paid.0 =
    subst (λ (l : List ℤ). AreFractions t.den l paid.0) c.items.ensures (subst (λ (d : ℤ). AreFractions d c.items.result.now paid.0)
    (to_z-of_z w128 c.args.turn.now.den fits) paid.1) in
    let points : Grows (((c.args.text.now ++ codes "round") ++ 32 ∷ decimal c.args.number) ++ codes " point") c.add_payments.new.text
    (AreFractions t.den t.at) =
    (paid.0, are, paid.2 ∙ ap (λ (l : List ℕ). l ++ paid.0) front) in
    turn-line c.args.winners.now c.args.number t c.args.text.now c.add_payments.new.text c.add_end.new.text c.requires.turn.payments.winners points
    c.in_ok-add_end.ensures
