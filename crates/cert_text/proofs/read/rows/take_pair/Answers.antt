use Rattle.std.proofs.lemmas.Grind.{common_steps}
use Rattle.std.proofs.Common.{◌≡◌, List, [], ◌∷◌, get_or, sym, ap, subst, ◌∙◌, rules, FitsSigned, arith}
use Rattle.std.specs.Prelude.{ℤ, pos}
use Rattle.std.specs.Int.{w128}
use Rattle.std.proofs.lemmas.Int.{to_z-of_z}
use Rattle.cert_grammar.specs.Lines.{kind, signed}
use Rattle.cert_grammar.specs.CertText.{line}
use Rattle.cert_text.specs.Readers.{Leads}
use Rattle.cert_text.proofs.RowSteps.{two_numbers}
use Rattle.cert_text.proofs.read.rows.take_pair.Goals as goal

pub returns-clause-leads : goal.returns-clause-leads
returns-clause-leads c =
    let f : FitsSigned w128 (get_or c.items-numbers.result.now 0 (pos 0)) = search rules in
    let g : FitsSigned w128 (get_or c.items-numbers.result.now 1 (pos 0)) = search rules in
    let two : c.in_ok-read.read.numbers ≡ get_or c.items-numbers.result.now 0 (pos 0) ∷ get_or c.items-numbers.result.now 1 (pos 0) ∷ [] =
    two_numbers c.in_ok-read.read.numbers c.in_ok-read.ensures.count ∙ ap (λ (l : List ℤ). get_or l 0 (pos 0) ∷ get_or l 1 (pos 0) ∷ [])
    (sym c.items-numbers.ensures) in
    simp to_z-of_z (subst (λ (ns : List ℤ). Leads c.args.bytes.now c.args.place (kind c.args.word.now (signed 2) ∷ []) c.in_ok-read.read.next []
    (line c.args.word.now ns ∷ [])) two c.in_ok-read.ensures.leads)

pub returns-clause-range : goal.returns-clause-range
returns-clause-range c = grind (arith, common_steps)
