-- The places of the numbers of a line in the room.
use Rattle.std.specs.Prelude.{◌≡◌, ℕ, ◌+◌, ◌-◌, ◌*◌, ◌%◌, List, take, drop, ℤ}
use Rattle.limits.specs.declared.TheConstants.{MOST_BIDDERS, MOST_STATES}
use Rattle.cert_grammar.specs.Lines.{is_first_version}
use Rattle.cert_stream.specs.declared.line.form.Form.{Form}
use Rattle.cert_stream.specs.declared.line.form.Form.TheVariants as form
use Rattle.cert_stream.specs.declared.due.NextLine.{NextLine}
use Rattle.cert_stream.specs.declared.due.NextLine.TheVariants.{Version, Limits, Den, Value, Choice, Title, Entries, Without, PartChoice, Payments, Rows, Members, Multipliers, RowChoice, End, Nothing}
use Rattle.cert_stream.specs.Dues.{version_number}
use Rattle.cert_stream.specs.Forms.{room_for}

-- how many numbers the room has
abbrev pub room_size : ℕ → ℕ → ℕ
room_size bidders states = 2 * states + bidders * bidders + 10 * bidders + 100

-- which numbers the line has
abbrev pub form_due : ℕ → ℕ → NextLine → Form
form_due bidders states Version = form.Just (version_number (is_first_version bidders states))
form_due bidders states Limits = form.Both MOST_BIDDERS MOST_STATES
form_due bidders states Den = form.Signed 1
form_due bidders states Value = form.Signed 1
form_due bidders states Choice = form.Chosen bidders
form_due bidders states (Title table) = form.Nothing
form_due bidders states (Entries table k) = form.Signed states
form_due bidders states (Without j) = form.Just j
form_due bidders states (PartChoice j) = form.Chosen bidders
form_due bidders states Payments = form.Signed bidders
form_due bidders states Rows = form.Counted bidders
form_due bidders states (Members r) = form.Members bidders
form_due bidders states (Multipliers r) = form.Signed 2
form_due bidders states (RowChoice r) = form.Chosen bidders
form_due bidders states End = form.Nothing
form_due bidders states Nothing = form.Nothing

-- The parts of the room, in order: the head's choice from 0 on; single numbers from `bidders` on; the denominator and the value; the
-- payments; a choice for each part; the members and the choice of the row that is read; 30 numbers that the reader leaves alone, three
-- for each row; and the last two lines of the table that is read.
abbrev pub den_start : ℕ → ℕ
den_start bidders = bidders + 2

abbrev pub value_start : ℕ → ℕ
value_start bidders = bidders + 3

abbrev pub payments_start : ℕ → ℕ
payments_start bidders = bidders + 4

abbrev pub part_start : ℕ → ℕ → ℕ
part_start bidders j = 2 * bidders + 4 + (j - 1) * bidders

abbrev pub members_start : ℕ → ℕ
members_start bidders = bidders * bidders + 2 * bidders + 4

abbrev pub row_choice_start : ℕ → ℕ
row_choice_start bidders = bidders * bidders + 3 * bidders + 4

abbrev pub rows_start : ℕ → ℕ
rows_start bidders = bidders * bidders + 4 * bidders + 4

abbrev pub entries_start : ℕ → ℕ → ℕ → ℕ
entries_start bidders states k = bidders * bidders + 4 * bidders + 34 + (k % 2) * states

-- where the numbers of the line begin
abbrev pub start_due : ℕ → ℕ → NextLine → ℕ
start_due bidders states Choice = 0
start_due bidders states Den = den_start bidders
start_due bidders states Value = value_start bidders
start_due bidders states Payments = payments_start bidders
start_due bidders states (PartChoice j) = part_start bidders j
start_due bidders states (Members r) = members_start bidders
start_due bidders states (RowChoice r) = row_choice_start bidders
start_due bidders states (Entries table k) = entries_start bidders states k
start_due bidders states due = bidders

-- the numbers of the line, as many as it may have
abbrev pub segment : ℕ → ℕ → NextLine → List ℤ → List ℤ
segment bidders states due room = take (room_for (form_due bidders states due)) (drop (start_due bidders states due) room)

-- all other numbers of the room stay
pub record KeepsOthers (bidders states : ℕ) (due : NextLine) (old new : List ℤ) : Type 0 where
  pub front : take (start_due bidders states due) new ≡ take (start_due bidders states due) old
  pub back : drop (start_due bidders states due + room_for (form_due bidders states due)) new ≡ drop (start_due bidders states due + room_for (form_due bidders states due)) old
