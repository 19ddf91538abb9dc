-- A line of such numbers that has come only so far.
use Rattle.std.specs.Prelude.{◌≡◌, ◌≢◌, ℕ, Bool, true, false, List, [], ◌∷◌, ◌++◌, length, get_or, ◌<◌, ℤ}
use Rattle.line_format.specs.Numeral.{numbers_text}
use Rattle.cert_grammar.specs.Lines.{FitNumbers, Numbers}
use Rattle.cert_stream.specs.declared.line.form.Form.{Form}
use Rattle.cert_stream.specs.declared.line.LinePart.{LinePart}
use Rattle.cert_stream.specs.declared.line.Outcome.{Outcome}
use Rattle.cert_stream.specs.declared.line.Outcome.TheVariants.{Open, Whole, Fault}
use Rattle.cert_stream.specs.Forms.{numbers_of, MayBegin, Keeps}
use Rattle.cert_stream.specs.Pieces.{between}
use Rattle.cert_stream.specs.Partway.{Partway}

-- The bytes are the prefix of a line, as far as this part says, and `out` begins with its whole numbers.
pub record IsPart (word : List ℕ) (form : Form) (part : LinePart) (out : List ℤ) (bytes : List ℕ) : Type 0 where
  pub numbers : List ℤ
  pub partway : Partway word numbers part.phase bytes
  pub keeps : Keeps numbers out part.count part.beyond
  pub begins : MayBegin (numbers_of form) numbers

-- the bytes are a whole line of such numbers, and `out` begins with them
pub record IsWholeLine (word : List ℕ) (form : Form) (part : LinePart) (out : List ℤ) (bytes : List ℕ) : Type 0 where
  pub numbers : List ℤ
  pub spelled : bytes ≡ word ++ numbers_text numbers
  pub fit : FitNumbers (numbers_of form) numbers
  pub keeps : Keeps numbers out part.count part.beyond

-- no line of such numbers has this byte after these; a line feed ends the line
pub record IsUnfit (word : List ℕ) (n : Numbers) (bytes : List ℕ) (byte : ℕ) : Type 0 where
  pub ended : byte ≡ 10 → (ns : List ℤ) → FitNumbers n ns → bytes ≡ word ++ numbers_text ns → ⊥
  pub inside : byte ≢ 10 → (ns : List ℤ) (rest : List ℕ) → FitNumbers n ns
      → bytes ++ byte ∷ rest ≡ word ++ numbers_text ns → ⊥

-- what one more byte makes of the line
abbrev pub Becomes : List ℕ → Form → LinePart → List ℤ → List ℕ → ℕ → Outcome → Type 0
Becomes word form part out bytes byte Open = (byte ≢ 10) × IsPart word form part out (bytes ++ byte ∷ [])
Becomes word form part out bytes byte Whole = (byte ≡ 10) × IsWholeLine word form part out bytes
Becomes word form part out bytes byte Fault = IsUnfit word (numbers_of form) bytes byte

-- what is kept of one number more, or why it can't be there
abbrev pub Accepts : Form → List ℤ → ℤ → List ℤ → LinePart → Bool → Type 0
Accepts form ns z out part true = Keeps (ns ++ z ∷ []) out part.count part.beyond
    × MayBegin (numbers_of form) (ns ++ z ∷ [])
Accepts form ns z out part false = (more : List ℤ) → FitNumbers (numbers_of form) (ns ++ z ∷ more) → ⊥

-- What the bytes of a piece from a place on make of the line: it goes on to the end of the piece, or the byte at this place makes it
-- whole or wrong.
abbrev pub ReadsOn : List ℕ → Form → LinePart → List ℤ → List ℕ → List ℕ → ℕ → ℕ → Outcome → Type 0
ReadsOn word form part out bytes piece at end Open = (end ≡ length piece)
    × IsPart word form part out (bytes ++ between at end piece)
ReadsOn word form part out bytes piece at end Whole = (end < length piece) × (get_or piece end 0 ≡ 10)
    × IsWholeLine word form part out (bytes ++ between at end piece)
ReadsOn word form part out bytes piece at end Fault = (end < length piece)
    × IsUnfit word (numbers_of form) (bytes ++ between at end piece) (get_or piece end 0)
