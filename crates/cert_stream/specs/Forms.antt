-- Which numbers may be on a line so far.
use Rattle.std.specs.Prelude.{◌≡◌, ℕ, ◌≤◌, ◌<◌, ◌↔◌, IsTrue, Bool, false, List, [], ◌∷◌, ◌++◌, length, take, ℤ, pos, ◌≤ℤ◌, ◌<ℤ◌}
use Rattle.cert_grammar.specs.Lines.{AreNumbers, FitNumbers, Numbers, Rise, chosen, counted, headed, members, ordered_count, ordered_head, signed, these}
use Rattle.line_format.specs.Range.{any_out}
use Rattle.cert_stream.specs.declared.line.phase.ReadNumber.{ReadNumber}
use Rattle.cert_stream.specs.Tallies.{IsKept}
use Rattle.cert_stream.specs.declared.line.form.Form.{Form}
use Rattle.cert_stream.specs.declared.line.form.Form.TheVariants.{Nothing, Just, Both, Signed, Chosen, Counted, Members}

-- what is on a line of the form
abbrev pub numbers_of : Form → Numbers
numbers_of Nothing = these []
numbers_of (Just number) = these (pos number ∷ [])
numbers_of (Both first second) = these (pos first ∷ pos second ∷ [])
numbers_of (Signed count) = signed count
numbers_of (Chosen bidders) = chosen bidders
numbers_of (Counted bidders) = counted bidders
numbers_of (Members bidders) = members bidders

-- how many numbers it has at most
abbrev pub room_for : Form → ℕ
room_for Nothing = 0
room_for (Just number) = 1
room_for (Both first second) = 2
room_for (Signed count) = count
room_for (Chosen bidders) = bidders
room_for (Counted bidders) = 1
room_for (Members bidders) = bidders

-- the last of the numbers, and this one if there is none
abbrev pub last_of : ℤ → List ℤ → ℤ
last_of before [] = before
last_of before (n ∷ ns) = last_of n ns

-- the numbers may be the first of such a line
abbrev pub MayBegin : Numbers → List ℤ → Type 0
MayBegin (these ms) ns = (rest : List ℤ) × (ms ≡ ns ++ rest)
MayBegin (signed count) ns = length ns ≤ count
MayBegin (chosen bidders) ns = (length ns ≤ bidders) × AreNumbers 65535 ns
MayBegin (headed bidders states) ns = (length ns ≤ bidders) × AreNumbers 65535 ns
MayBegin (counted bidders) ns = (length ns ≤ 1) × (0 < length ns → FitNumbers (counted bidders) ns)
MayBegin (members bidders) ns = Rise bidders (pos 0) ns
MayBegin (ordered_head bidders) ns = (length ns ≤ bidders) × AreNumbers 65535 ns
MayBegin (ordered_count bidders) ns = (length ns ≤ 1) × (0 < length ns → FitNumbers (counted bidders) ns)

-- a number may be the next
abbrev pub MayFollow : Numbers → List ℤ → ℤ → Type 0
MayFollow (these ms) ns z = (rest : List ℤ) × (ms ≡ ns ++ z ∷ rest)
MayFollow (signed count) ns z = length ns < count
MayFollow (chosen bidders) ns z = (length ns < bidders) × (pos 0 ≤ℤ z) × (z ≤ℤ pos 65535)
MayFollow (headed bidders states) ns z = (length ns < bidders) × (pos 0 ≤ℤ z) × (z ≤ℤ pos 65535)
MayFollow (counted bidders) ns z = (ns ≡ []) × FitNumbers (counted bidders) (z ∷ [])
MayFollow (members bidders) ns z = (last_of (pos 0) ns <ℤ z) × (z ≤ℤ pos bidders)
MayFollow (ordered_head bidders) ns z = (length ns < bidders) × (pos 0 ≤ℤ z) × (z ≤ℤ pos 65535)
MayFollow (ordered_count bidders) ns z = (ns ≡ []) × FitNumbers (counted bidders) (z ∷ [])

-- this is kept of numbers: how many there are, and the numbers themselves if all are in range
pub record Keeps (ns out : List ℤ) (count : ℕ) (beyond : Bool) : Type 0 where
  pub many : length ns ≡ count
  pub range : any_out ns ≡ beyond
  pub same : beyond ≡ false → take count out ≡ ns

-- whether a number may be the next, by what is kept
abbrev pub Decides : Form → List ℤ → ℕ → ReadNumber → Bool → Type 0
Decides form out count kept answer = (ns : List ℤ) (z : ℤ) (beyond : Bool) → Keeps ns out count beyond
    → MayBegin (numbers_of form) ns → IsKept kept z → IsTrue answer ↔ MayFollow (numbers_of form) ns z
