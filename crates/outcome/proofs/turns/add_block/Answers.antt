use Rattle.std.proofs.Common.{rules, ◌≡◌, ◌∙◌, ap, subst, refl, ◌++◌, List, ℕ, ℤ, codes, length, FitsSigned, to_z, of_z}
use Rattle.std.specs.Int.{w128}
use Rattle.std.proofs.lemmas.Int.{to_z-of_z}
use Rattle.line_format.specs.Decimals.{decimals_text}
use Rattle.core_laws.specs.Winners.{has_member, members_of}
use Rattle.outcome.specs.Fractions.{IsFractionOf, fraction_text}
use Rattle.outcome.proofs.TurnLaws.{block-line}
use Rattle.outcome.proofs.turns.add_block.Goals as goal

pub returns : goal.returns
returns c =
    let t = c.args.text.now in
    let b = c.args.block.now in
    let members = decimals_text (members_of (has_member c.args.winners.now b.row.members) (length c.args.winners.now)) in
    let choice = decimals_text b.choice in
    let excess = fraction_text c.new.result in
    let fits : FitsSigned w128 c.args.block.now.excess = search rules in
    let is : IsFractionOf b.excess c.args.den c.new.result =
    subst (λ (d : ℤ). IsFractionOf b.excess d c.new.result) (to_z-of_z w128 c.args.den c.ranges.den)
    (subst (λ (n : ℤ). IsFractionOf n (to_z w128 (of_z w128 c.args.den)) c.new.result) (to_z-of_z w128 c.args.block.now.excess fits) c.new.ensures.fraction) in
    let on : (a b c : List ℕ) → a ≡ b → a ++ c ≡ b ++ c = λ a b c e. ap (λ (l : List ℕ). l ++ c) e in
    let rows : c.add_numbers.new.text ≡ (t ++ codes " row") ++ members =
    c.in_ok-add_numbers.ensures ∙ ap (λ (l : List ℕ). c.add.new.self ++ decimals_text l) (c.items.ensures ∙ c.in_ok-members.ensures)
    ∙ on _ _ _ c.in_ok-add.ensures in
    let word : c.add-2.new.self ≡ ((t ++ codes " row") ++ members) ++ codes " choice" = c.in_ok-add-2.ensures ∙ on _ _ _ rows in
    let numbers : c.add_numbers-2.new.text ≡ (((t ++ codes " row") ++ members) ++ codes " choice") ++ choice =
    c.in_ok-add_numbers-2.ensures ∙ ap (λ (l : List ℕ). c.add-2.new.self ++ decimals_text l) c.numbers.ensures ∙ on _ _ _ word in
    let third : c.add-3.new.self ≡ ((((t ++ codes " row") ++ members) ++ codes " choice") ++ choice) ++ codes " excess " =
    c.in_ok-add-3.ensures ∙ on _ _ _ numbers in
    let all : c.add_fraction.new.text ≡ (((((t ++ codes " row") ++ members) ++ codes " choice") ++ choice) ++ codes " excess ") ++ excess =
    c.in_ok-add_fraction.ensures ∙ on _ _ _ third in (
      codes " row" ++ members ++ codes " choice" ++ choice ++ codes " excess " ++ excess ++ codes "\n",
      (excess, (c.new.result.whole, c.new.result.rest, c.new.result.parts, is, refl), refl),
      c.in_ok-push.ensures ∙ on _ _ _ all ∙ block-line t (codes " row") members (codes " choice") choice (codes " excess ") excess (codes "\n"),
    )
