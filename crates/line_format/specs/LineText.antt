-- Forms of text by lines. A form defines which values have a text, and the lines of each value. A line that
-- exceeds a limit is listed with the limit.
use Rattle.std.specs.Prelude.{◌≡◌, ◌≢◌, ℕ, ◌≤◌, Option, Some, None, List, [], ◌∷◌, ◌++◌, length, take}
use Rattle.std.specs.Option.{option_or}

-- lines, each with its line feed
abbrev pub text_of : {O : Type 0} → List (List ℕ × Option O) → List ℕ
text_of [] = []
text_of (m ∷ ms) = m.0 ++ 10 ∷ text_of ms

-- what the first of the lines that exceed a limit exceeds
abbrev pub first_excess : {O : Type 0} → List (List ℕ × Option O) → Option O
first_excess [] = None
first_excess (m ∷ ms) = option_or m.1 (first_excess ms)

-- no line feed
abbrev pub IsLine : List ℕ → Type 0
IsLine [] = Unit {0}
IsLine (c ∷ cs) = (c ≢ 10) × IsLine cs

abbrev pub BeginsWith : List ℕ → List ℕ → Type 0
BeginsWith bytes start = (more : List ℕ) × (bytes ≡ start ++ more)

module _ {V O : Type 0} (IsValid : V → Type 0) (lines : V → List (List ℕ × Option O)) where
  -- the bytes are the text of this value, which exceeds no limit
  pub record IsTextOf (bytes : List ℕ) (value : V) : Type 0 where
    pub valid : IsValid value
    pub spelled : bytes ≡ text_of (lines value)
    pub within : first_excess (lines value) ≡ None

  -- the bytes begin with the first count lines of a value's text
  pub record Front (bytes : List ℕ) : Type 0 where
    pub value : V
    pub count : ℕ
    pub valid : IsValid value
    pub begins : BeginsWith bytes (text_of (take count (lines value)))

  -- The first faulty line begins at this place: the lines before it are the prefix of a text, without an excess,
  -- no more lines are, and the bytes aren't a text.
  pub record FaultAt (bytes : List ℕ) (place : ℕ) : Type 0 where
    pub front : Front bytes
    pub within : first_excess (take front.count (lines front.value)) ≡ None
    pub here : length (text_of (take front.count (lines front.value))) ≡ place
    pub longest : (other : Front bytes) → length (text_of (take other.count (lines other.value))) ≤ place
    pub no_text : (v : V) → IsValid v → bytes ≢ text_of (lines v)

  -- the lines are the prefix of a text, up to one that exceeds a limit, the first that does
  pub record Exceeds (bytes : List ℕ) (excess : O) : Type 0 where
    pub front : Front bytes
    pub first : first_excess (take front.count (lines front.value)) ≡ Some excess

-- what bytes say: a value, the place of the first faulty line, or what is exceeded first
pub data Said (V O : Type 0) : Type 0 where
  stated : V → Said V O
  faulty : ℕ → Said V O
  beyond : O → Said V O

abbrev pub Says : {V O : Type 0} → (V → Type 0) → (V → List (List ℕ × Option O)) → List ℕ → Said V O → Type 0
Says IsValid lines bytes (stated v) = IsTextOf IsValid lines bytes v
Says IsValid lines bytes (faulty place) = FaultAt IsValid lines bytes place
Says IsValid lines bytes (beyond o) = Exceeds IsValid lines bytes o
