-- A line of a word and numbers that has come only so far.
use Rattle.std.specs.Prelude.{◌≡◌, ◌≢◌, ℕ, ◌≤◌, Bool, true, false, List, [], ◌∷◌, ◌++◌, length, take, ℤ, pos, negsuc, unsigned_abs}
use Rattle.line_format.specs.Numeral.{numbers_text}
use Rattle.cert_stream.specs.declared.line.tally.Magnitude.{Magnitude}
use Rattle.cert_stream.specs.declared.line.phase.Phase.{Phase}
use Rattle.cert_stream.specs.declared.line.phase.Phase.TheVariants.{Word, Space, Minus, Digits}
use Rattle.cert_stream.specs.declared.line.phase.NextPhase.{NextPhase}
use Rattle.cert_stream.specs.declared.line.phase.NextPhase.TheVariants.{Open, Field, Last, Bare, Fault}
use Rattle.cert_stream.specs.Tallies.{IsTally, IsKept}

-- the sign of a number: a minus is only before a number below 0
abbrev pub IsBelow : Bool → ℤ → Type 0
IsBelow negative (pos n) = negative ≡ false
IsBelow negative (negsuc n) = negative ≡ true

-- the last number so far, after this sign and size
pub record IsOpen (negative : Bool) (tally : Magnitude) (z : ℤ) : Type 0 where
  pub sign : IsBelow negative z
  pub size : IsTally tally (unsigned_abs z)

-- The bytes are the prefix of a line of the word: these numbers are whole, and after them it has come so far. Digits are part
-- of one number more, which may go on.
abbrev pub Partway : List ℕ → List ℤ → Phase → List ℕ → Type 0
Partway word ns (Word count) bytes = (ns ≡ []) × (count ≤ length word) × (bytes ≡ take count word)
Partway word ns Space bytes = bytes ≡ word ++ (numbers_text ns ++ 32 ∷ [])
Partway word ns Minus bytes = bytes ≡ word ++ (numbers_text ns ++ 32 ∷ 45 ∷ [])
Partway word ns (Digits negative tally) bytes = (z : ℤ) × IsOpen negative tally z
    × (bytes ≡ word ++ numbers_text (ns ++ z ∷ []))

-- no line of the word and numbers has this byte after these; a line feed ends the line
pub record IsRefused (word bytes : List ℕ) (byte : ℕ) : Type 0 where
  pub ended : byte ≡ 10 → (ns : List ℤ) → bytes ≡ word ++ numbers_text ns → ⊥
  pub inside : byte ≢ 10 → (ns : List ℤ) (rest : List ℕ) → bytes ++ byte ∷ rest ≡ word ++ numbers_text ns → ⊥

-- what one more byte makes of it
abbrev pub StepsTo : List ℕ → List ℤ → List ℕ → ℕ → NextPhase → Type 0
StepsTo word ns bytes byte (Open phase) = (byte ≢ 10) × Partway word ns phase (bytes ++ byte ∷ [])
StepsTo word ns bytes byte (Field kept) = (byte ≡ 32)
    × ((z : ℤ) × IsKept kept z × (bytes ≡ word ++ numbers_text (ns ++ z ∷ []))
    × Partway word (ns ++ z ∷ []) Space (bytes ++ byte ∷ []))
StepsTo word ns bytes byte (Last kept) = (byte ≡ 10)
    × ((z : ℤ) × IsKept kept z × (bytes ≡ word ++ numbers_text (ns ++ z ∷ [])))
StepsTo word ns bytes byte Bare = (byte ≡ 10) × (ns ≡ []) × (bytes ≡ word)
StepsTo word ns bytes byte Fault = IsRefused word bytes byte
