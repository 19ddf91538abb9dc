-- Numbers in a line: what is read from a place on.
use Rattle.std.specs.Prelude.{Bool, List, [], drop, false, length, slice_index, take, true, unsigned_abs, ℕ, ℤ, ◌++◌, ◌<◌, ◌^◌, ◌∷◌, ◌≡◌, ◌≢◌, ◌≤◌}
use Rattle.line_format.specs.Numeral.{numeral, signed_numeral, numbers_text}
use Rattle.line_format.specs.Range.{is_out, any_out}
use Rattle.line_format.specs.declared.numbers.Kept.{Kept}
use Rattle.line_format.specs.declared.numbers.Signed.{Signed}
use Rattle.line_format.specs.declared.numbers.Signed.TheVariants.{Inside, Outside, Nothing}
use Rattle.line_format.specs.declared.numbers.Natural.{Natural}
use Rattle.line_format.specs.declared.numbers.Natural.TheVariants.{Within, Beyond, NoNumber}
use Rattle.line_format.specs.declared.numbers.Magnitude.{Magnitude}

-- a field ends at a space or at the end of its line
abbrev pub FieldEnds : List ℕ → Type 0
FieldEnds [] = Unit {0}
FieldEnds (c ∷ cs) = c ≡ 32

-- the text begins with the numeral of n, as a field that ends at this place
pub record IsField (text : List ℕ) (n stop : ℕ) : Type 0 where
  pub within : stop ≤ length text
  pub spelled : take stop text ≡ numeral n
  pub ends : FieldEnds (drop stop text)

-- what a natural number at the start of the text is read as
abbrev pub ReadsNatural : List ℕ → Natural → Type 0
ReadsNatural text (Within n stop) = IsField text n stop × (n < 2 ^ 120)
ReadsNatural text (Beyond stop) = (n : ℕ) × IsField text n stop × (2 ^ 120 ≤ n)
ReadsNatural text NoNumber = (n : ℕ) (rest : List ℕ) → FieldEnds rest → text ≡ numeral n ++ rest → ⊥

-- what is kept of a value: itself while it is below 2^120
pub record IsTally (t : Magnitude) (value : ℕ) : Type 0 where
  pub small : t.beyond ≡ false → (t.n ≡ value) × (value < 2 ^ 120)
  pub large : t.beyond ≡ true → 2 ^ 120 ≤ value

abbrev pub HasNoLeadingZero : List ℕ → ℕ → Type 0
HasNoLeadingZero text stop = (0 < stop) × (1 < stop → slice_index text 0 ≢ 48)

-- the text begins with the numeral of a signed number, as a field that ends at this place
pub record IsSignedField (text : List ℕ) (z : ℤ) (stop : ℕ) : Type 0 where
  pub within : stop ≤ length text
  pub some : 0 < stop
  pub spelled : take stop text ≡ signed_numeral z
  pub ends : FieldEnds (drop stop text)

-- what a signed number at the start of the text is read as
abbrev pub ReadsSigned : List ℕ → Signed → Type 0
ReadsSigned text (Inside z stop) = IsSignedField text z stop × (unsigned_abs z < 2 ^ 120)
ReadsSigned text (Outside stop) = (z : ℤ) × IsSignedField text z stop × (2 ^ 120 ≤ unsigned_abs z)
ReadsSigned text Nothing = (z : ℤ) (rest : List ℕ) → FieldEnds rest → text ≡ signed_numeral z ++ rest → ⊥

abbrev pub IsNoField : List ℕ → Type 0
IsNoField text = (z : ℤ) (rest : List ℕ) → FieldEnds rest → text ≡ signed_numeral z ++ rest → ⊥

-- what is kept of the number at the start of the text
pub record KeepsNumber (text : List ℕ) (k : Kept) (z : ℤ) : Type 0 where
  pub field : IsSignedField text z k.stop
  pub beyond : is_out z ≡ k.beyond
  pub same : k.beyond ≡ false → k.number ≡ z

abbrev pub KeepsField : List ℕ → Kept → Type 0
KeepsField text k = (z : ℤ) × KeepsNumber text k z

-- the first bytes of the text spell these numbers, and this is kept of them
pub record KeepsNumbers (text : List ℕ) (at : ℕ) (ns items : List ℤ) (beyond : Bool) : Type 0 where
  pub within : at ≤ length text
  pub front : take at text ≡ numbers_text ns
  pub ends : 0 < at → FieldEnds (drop at text)
  pub count : length items ≡ length ns
  pub out : any_out ns ≡ beyond
  pub same : beyond ≡ false → items ≡ ns

-- the whole text does
pub record HasNumbers (text : List ℕ) (items : List ℤ) (beyond : Bool) : Type 0 where
  pub numbers : List ℤ
  pub spelled : text ≡ numbers_text numbers
  pub count : length items ≡ length numbers
  pub out : any_out numbers ≡ beyond
  pub same : beyond ≡ false → items ≡ numbers

-- the line is the word and numbers, and this is kept of them
pub record HasLine (text word : List ℕ) (items : List ℤ) (beyond : Bool) : Type 0 where
  pub front : take (length word) text ≡ word
  pub rest : HasNumbers (drop (length word) text) items beyond
