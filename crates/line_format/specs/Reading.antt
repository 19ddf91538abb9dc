-- Texts that are read by stages. A stage is what the lines so far say; each line leads from one stage to the next.
use Rattle.std.specs.Prelude.{◌≡◌, ℕ, ◌<◌, Option, Some, None, List, [], ◌∷◌, ◌++◌, length, drop}
use Rattle.line_format.specs.LineText.{IsLine, text_of, first_excess}

module _ {S O : Type 0} (Step : S → List ℕ → S → Type 0) (excess : S → Option O) where
  -- the reader goes from one stage to the other over these lines, and each exceeds the limit listed with it
  abbrev pub Runs : S → List (List ℕ × Option O) → S → Type 0
  Runs s [] t = s ≡ t
  Runs s (m ∷ ms) t = (u : S) × IsLine m.0 × Step s m.0 u × (m.1 ≡ excess u) × Runs u ms t

module _ {S O : Type 0} (Step : S → List ℕ → S → Type 0) (excess : S → Option O) (begin : S) where
  -- The reader is at a stage, before this place of the bytes: what it has after it.
  pub record SoFar (bytes : List ℕ) (place : ℕ) (s : S) : Type 0 where
    pub behind : List (List ℕ × Option O)
    pub run : Runs Step excess begin behind s
    pub within : first_excess behind ≡ None
    pub split : bytes ≡ text_of behind ++ drop place bytes
    pub here : length (text_of behind) ≡ place

  -- the reader reaches this place and no further: no line leads on from there, and if no bytes are left, no value has ended
  pub record HaltsAt {V : Type 0} (ended : V → S) (bytes : List ℕ) (place : ℕ) : Type 0 where
    pub stage : S
    pub so_far : SoFar bytes place stage
    pub blocked : (line more : List ℕ) → IsLine line → drop place bytes ≡ line ++ 10 ∷ more → (t : S) → Step stage line t → ⊥
    pub open_end : (v : V) → stage ≡ ended v → 0 < length (drop place bytes)

  -- the bytes begin with lines that lead up to one that exceeds this, the first that exceeds a limit
  pub record ExceedsFirst (bytes : List ℕ) (o : O) : Type 0 where
    pub stage : S
    pub behind : List (List ℕ × Option O)
    pub run : Runs Step excess begin behind stage
    pub rest : List ℕ
    pub split : bytes ≡ text_of behind ++ rest
    pub first : first_excess behind ≡ Some o
