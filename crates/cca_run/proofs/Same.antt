-- Outcomes with one status and one text, and how an input gives them.
use Rattle.std.proofs.Common.{inl, inr, ◌≡◌, ◌∙◌, ℕ, Option, Some, None, List, length, refl, sym, ap, subst}
use Rattle.std.proofs.lemmas.Bool.{cases_lt}
use Rattle.cca_cli.specs.Outcome.{Answer, AnswerGives, FileAnswers, InputGives, Outcome, done, stopped, stops, value}
use Rattle.cca_cli.specs.declared.file_text.FileText.{FileText}
use Rattle.cca_cli.specs.declared.status.FileKind.{FileKind}
use Rattle.cca_cli.specs.declared.status.Status.{Status}
use Rattle.cca_cli.specs.declared.status.Status.TheVariants.{ReadFault}

-- both have one status and one text
abbrev pub Same : Outcome → Outcome → Type 0
Same o p = (o.status ≡ p.status) × (o.printed ≡ p.printed)

-- outcomes that are the same as two that are
pub both : (o p x y : Outcome) → o ≡ x → p ≡ y → Same x y → Same o p
both o p x y a b s = (
  ap (λ (z : Outcome). z.status) a ∙ s.0 ∙ sym (ap (λ (z : Outcome). z.status) b),
  ap (λ (z : Outcome). z.printed) a ∙ s.1
      ∙ sym (ap (λ (z : Outcome). z.printed) b),
)

-- two that are one
pub equal : (o p x : Outcome) → o ≡ x → p ≡ x → Same o p
equal o p x a b = both o p x x a b (refl, refl)

-- one text with whatever is appended
pub printed-same : (t u : List ℕ) (a b : List FileText) → t ≡ u → Same (done t a) (done u b)
printed-same t u a b e = (refl, e)

-- an input has one answer
pub one-answer : {V : Type 0} (most : ℕ) (says : List ℕ → Answer V → Type 0) (one : (bytes : List ℕ) (a b : Answer V) → says bytes a → says bytes b → a ≡ b)
    (bytes : List ℕ) (a b : Answer V)
    → FileAnswers most says bytes a → FileAnswers most says bytes b → a ≡ b
one-answer most says one bytes a b x y =
    elim (cases_lt most (length bytes)) [
      | inl over ↦ x.long over ∙ sym (y.long over)
      | inr short ↦ one bytes a b (x.text short) (y.text short)
    ]

-- a value that is within the limit of bytes is what the text says
pub within-says : {V : Type 0} (most : ℕ) (says : List ℕ → Answer V → Type 0) (bytes : List ℕ) (v : V) → FileAnswers most says bytes (value v)
    → says bytes (value v)
within-says most says bytes v answers =
    elim (cases_lt most (length bytes)) [
      | inl over ↦ (let no = answers.long over in absurd cc)
      | inr short ↦ answers.text short
    ]

-- two outcomes of one input are its stop, or follow for one value
pub two-inputs : {V : Type 0} (kind : FileKind) (most : ℕ) (says : List ℕ → Answer V → Type 0) (follows others : V → Outcome
    → Type 0) (content : Option (List ℕ))
    (o p : Outcome) (R : Type 0) → ((bytes : List ℕ) (a b : Answer V) → says bytes a → says bytes b → a ≡ b)
    → ((s : Status) → o ≡ stopped s → p ≡ stopped s → R) → ((v : V) (bytes : List ℕ) → says bytes (value v) → follows v o → others v p → R)
    → InputGives kind most says content follows o → InputGives kind most says content others p → R
two-inputs kind most says follows others None o p R one stop on x y = stop (ReadFault kind) x y
two-inputs {V} kind most says follows others (Some bytes) o p R one stop on (a, answers, x) (b, same, y) =
    go a answers x (subst (λ (z : Answer V). AnswerGives z others p) (one-answer most says one bytes b a same answers) y)
  where
    go : (a : Answer V) → FileAnswers most says bytes a → AnswerGives a follows o → AnswerGives a others p → R
    go (value v) answers x y = on v bytes (within-says most says bytes v answers) x y
    go (stops s) answers x y = stop s x y

-- an input gives one status and one text, if each of its values does
pub one-input : {V : Type 0} (kind : FileKind) (most : ℕ) (says : List ℕ → Answer V → Type 0) (follows : V → Outcome → Type 0)
    → ((bytes : List ℕ) (a b : Answer V) → says bytes a → says bytes b → a ≡ b) → (content : Option (List ℕ)) (o p : Outcome)
    → ((v : V) (bytes : List ℕ) → says bytes (value v) → follows v o → follows v p → Same o p)
    → InputGives kind most says content follows o → InputGives kind most says content follows p → Same o p
one-input kind most says follows one content o p same x y =
    two-inputs kind most says follows follows content o p (Same o p) one (λ s a b. equal o p (stopped s) a b) same x y
