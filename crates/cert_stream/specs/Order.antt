-- Which line comes after a line.
use Rattle.std.specs.Prelude.{◌≡◌, ◌≢◌, ℕ, zero, suc, ◌+◌, ◌-◌, ◌≤◌, ◌<◌, ◌⊎◌, List, get_or, ℤ, pos}
use Rattle.cert_stream.specs.declared.due.NextLine.{NextLine}
use Rattle.cert_stream.specs.declared.due.NextLine.TheVariants.{Version, Limits, Den, Value, Choice, Title, Entries, Without, PartChoice, Payments, Rows, Members, Multipliers, RowChoice, End, Nothing}
use Rattle.cert_stream.specs.declared.due.Table.{Table}
use Rattle.cert_stream.specs.declared.due.Table.TheVariants.{Head, Part, Lowered}

-- the numbers of the head's choice are 0 from one place up to another
abbrev pub NoneFrom : List ℤ → ℕ → ℕ → Type 0
NoneFrom choice from to = (q : ℕ) → from ≤ q → q < to → get_or choice q (pos 0) ≡ pos 0

-- the line is the first one of the next part after the first `from` bidders, or the payments if there is none
abbrev pub IsPartNext : ℕ → List ℤ → ℕ → NextLine → Type 0
IsPartNext bidders choice from (Without j) = (from < j) × (get_or choice (j - 1) (pos 0) ≢ pos 0)
    × NoneFrom choice from (j - 1)
IsPartNext bidders choice from Payments = NoneFrom choice from bidders
IsPartNext bidders choice from due = ⊥

-- it is the first one of the rows that are to come, or of what follows them
abbrev pub IsRowNext : ℕ → NextLine → Type 0
IsRowNext zero due = due ≡ Title Lowered
IsRowNext (suc r) due = due ≡ Members (suc r)

-- it follows a table
abbrev pub IsTableNext : ℕ → List ℤ → Table → NextLine → Type 0
IsTableNext bidders choice Head due = IsPartNext bidders choice 0 due
IsTableNext bidders choice (Part j) due = IsPartNext bidders choice j due
IsTableNext bidders choice Lowered due = due ≡ End

-- After a line of a certificate of that many bidders and this choice, whose first number is this one, that line comes.
abbrev pub ComesBehind : ℕ → List ℤ → ℤ → NextLine → NextLine → Type 0
ComesBehind b choice first Version next = (next ≡ Den) ⊎ (next ≡ Limits)
ComesBehind b choice first Limits next = next ≡ Den
ComesBehind b choice first Den next = next ≡ Value
ComesBehind b choice first Value next = next ≡ Choice
ComesBehind b choice first Choice next = next ≡ Title Head
ComesBehind b choice first (Title table) next = next ≡ Entries table 0
ComesBehind b choice first (Entries table k) next = (k < b → next ≡ Entries table (k + 1))
    × (b ≤ k → IsTableNext b choice table next)
ComesBehind b choice first (Without j) next = next ≡ PartChoice j
ComesBehind b choice first (PartChoice j) next = next ≡ Title (Part j)
ComesBehind b choice first Payments next = next ≡ Rows
ComesBehind b choice first Rows next = (r : ℕ) → first ≡ pos r → r ≤ 10 → IsRowNext r next
ComesBehind b choice first (Members r) next = next ≡ Multipliers r
ComesBehind b choice first (Multipliers r) next = next ≡ RowChoice r
ComesBehind b choice first (RowChoice r) next = IsRowNext (r - 1) next
ComesBehind b choice first End next = next ≡ Nothing
ComesBehind b choice first Nothing next = next ≡ Nothing
