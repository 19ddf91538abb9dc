use Rattle.std.proofs.Common.{◌≡◌, ◌∙◌, ap, ◌++◌, ◌∷◌, [], List, ℕ, codes}
use Rattle.std.specs.Fmt.{decimal}
use Rattle.line_format.specs.Decimals.{decimals_text}
use Rattle.print_grammar.proofs.WinTextLaws.{winner-added}
use Rattle.outcome.proofs.win.add_winner.Goals as goal

pub returns : goal.returns
returns c =
    let end : (old new : List ℕ) → old ≡ new → old ++ 10 ∷ [] ≡ new ++ 10 ∷ [] = λ old new e. ap (λ (l : List ℕ). l ++ 10 ∷ []) e in
    let word = c.in_ok-add.ensures in
    let named : c.add-2.new.self ≡ (c.args.text.now ++ codes "winner ") ++ c.args.name.now = c.in_ok-add-2.ensures
    ∙ ap (λ (l : List ℕ). c.add.new.self ++ l) c.as_bytes.ensures.value ∙ ap (λ (l : List ℕ). l ++ c.args.name.now) word in
    let counted : c.add_numbers.new.text ≡ ((c.args.text.now ++ codes "winner ") ++ c.args.name.now) ++ decimals_text c.args.bid.now.package =
    c.in_ok-add_numbers.ensures ∙ ap (λ (l : List ℕ). c.add-2.new.self ++ decimals_text l) c.counts.ensures
    ∙ ap (λ (l : List ℕ). l ++ decimals_text c.args.bid.now.package) named in
    let made : c.add_number.new.text ≡ (((c.args.text.now ++ codes "winner ") ++ c.args.name.now) ++ decimals_text c.args.bid.now.package)
    ++ 32 ∷ decimal c.args.bid.now.amount =
    c.in_ok-add_number.ensures ∙ ap (λ (l : List ℕ). l ++ 32 ∷ decimal c.args.bid.now.amount) counted in
    c.in_ok-push.ensures ∙ end _ _ made ∙ winner-added c.args.text.now c.args.name.now c.args.bid.now.package c.args.bid.now.amount
