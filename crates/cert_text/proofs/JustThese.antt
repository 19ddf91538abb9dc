-- A line of just these numbers.
use Rattle.std.proofs.Common.{◌≡◌, ℕ, Bool, false, List, [], ◌∷◌, sym, ap, subst, ◌∙◌}
use Rattle.std.specs.Prelude.{ℤ}
use Rattle.cert_grammar.specs.Lines.{kind, these}
use Rattle.line_format.specs.Range.{any_out}
use Rattle.cert_grammar.specs.CertText.{line}
use Rattle.cert_text.specs.Readers.{IsLineAt, Leads, Halts}
use Rattle.cert_text.specs.declared.stop.CertStop.TheVariants.{Form}
use Rattle.cert_text.proofs.PlanSteps.{line_next, line_unfit}

module _ (bytes : List ℕ) (place : ℕ) (word : List ℕ) (numbers kept : List ℤ) (beyond : Bool) (next : ℕ) (at : IsLineAt bytes place word kept beyond next) where
  -- if the line has just these numbers, it is read and leads to the next place
  pub these_next : (beyond ≡ false) × (kept ≡ numbers) → Leads bytes place (kind word (these numbers) ∷ []) next [] (line word numbers ∷ [])
  these_next just = subst (λ (ns : List ℤ). Leads bytes place (kind word (these numbers) ∷ []) next [] (line word ns ∷ [])) just.1
      (line_next bytes place word (these numbers) kept beyond next at just.0 just.1)

  -- if it has others, it is of wrong form
  pub these_other : any_out numbers ≡ false → ((beyond ≡ false) × (kept ≡ numbers) → ⊥) → Halts bytes place (kind word (these numbers) ∷ []) (Form place)
  these_other inside other = line_unfit bytes place word (these numbers) kept beyond next at
      (λ ms many same out fit. let no : beyond ≡ false = sym out ∙ ap any_out fit ∙ inside in other (no, same no ∙ fit))
