-- The position of a reader of a text by a plan.
use Rattle.std.specs.Prelude.{◌≡◌, ℕ, ◌<◌, None, List, [], ◌∷◌}
use Rattle.line_format.specs.LineText.{IsLine}
use Rattle.line_format.specs.Reading.{SoFar}
use Rattle.cert_grammar.specs.Plan.{StepTo, excess, begin, end_place, last_mark}
use Rattle.cert_grammar.specs.Lines.{Line, Kind, Numbers, these, signed, chosen, headed, counted, members, ordered_head, ordered_count, Fits, after, spell, over, cert_plan}

-- a line can have such numbers
abbrev pub AreFineNumbers : Numbers → Type 0
AreFineNumbers (these ms) = Unit {0}
AreFineNumbers (signed n) = Unit {0}
AreFineNumbers (chosen n) = Unit {0}
AreFineNumbers (headed n s) = Unit {0}
AreFineNumbers (counted n) = Unit {0}
AreFineNumbers (members n) = 0 < n
AreFineNumbers (ordered_head n) = Unit {0}
AreFineNumbers (ordered_count n) = Unit {0}

-- a plan that can be followed: no word has a line feed, and each kind has a line
abbrev pub Fine : List Kind → Type 0
Fine [] = Unit {0}
Fine (k ∷ ks) = IsLine k.word × AreFineNumbers k.numbers × Fine ks

-- In a text by the whole plan, the bytes before this place are these lines, of right form and in range, and this is the plan of
-- what is to come.
pub record ReachedBy (whole : List Kind) (bytes : List ℕ) (place : ℕ) (plan : List Kind) (items : List Line) : Type 0 where
  pub fine : Fine whole
  pub so_far : SoFar (StepTo Fits after spell over) excess (begin whole) bytes place (record { plan = plan; items = items; place = place; over = None })
  pub place_is : end_place spell over 0 items ≡ place
  pub mark_is : last_mark spell over 0 None items ≡ None

-- this position in a certificate for that many bidders and states
abbrev pub Reached : ℕ → ℕ → List ℕ → ℕ → List Kind → List Line → Type 0
Reached bidders states = ReachedBy (cert_plan bidders states)
