-- Which numbers of the room are which of a certificate.
use Rattle.std.specs.Prelude.{◌≡◌, ℕ, suc, ◌≤◌, ◌<◌, IsTrue, List, [], ◌∷◌, take, slice_index_or, ℤ}
use Rattle.auction_model.specs.Market.{uses}
use Rattle.cert_grammar.specs.Certificate.{CertValue, part_of}
use Rattle.cert_grammar.specs.CertText.{as_numbers}
use Rattle.cert_stream.specs.declared.due.NextLine.{NextLine}
use Rattle.cert_stream.specs.declared.due.NextLine.TheVariants.{Version, Limits, Den, Value, Choice, Title, Entries, Without, PartChoice, Payments, Rows, Members, Multipliers, RowChoice, End, Nothing}
use Rattle.cert_stream.specs.declared.due.Table.{Table}
use Rattle.cert_stream.specs.declared.due.Table.TheVariants.{Head, Part, Lowered}
use Rattle.cert_stream.specs.LinesLeft.{table_in, row_at, line_due}
use Rattle.cert_stream.specs.Rooms.{form_due, segment}
use Rattle.cert_stream.proofs.RoomParts.{IsFixed}

-- how many of the denominator, the value, the choice and the payments have come
abbrev pub fields_in : Table → ℕ
fields_in Head = 3
fields_in (Part j) = 3
fields_in Lowered = 4

abbrev pub fields_come : NextLine → ℕ
fields_come Version = 0
fields_come Limits = 0
fields_come Den = 0
fields_come Value = 1
fields_come Choice = 2
fields_come (Title table) = fields_in table
fields_come (Entries table k) = fields_in table
fields_come (Without j) = 3
fields_come (PartChoice j) = 3
fields_come Payments = 3
fields_come Rows = 4
fields_come (Members r) = 4
fields_come (Multipliers r) = 4
fields_come (RowChoice r) = 4
fields_come End = 4
fields_come Nothing = 4

-- of all bidders before this one the choices without them have come
abbrev pub parts_in : ℕ → Table → ℕ
parts_in b Head = 0
parts_in b (Part j) = suc j
parts_in b Lowered = suc b

abbrev pub parts_come : ℕ → NextLine → ℕ
parts_come b Version = 0
parts_come b Limits = 0
parts_come b Den = 0
parts_come b Value = 0
parts_come b Choice = 0
parts_come b (Title table) = parts_in b table
parts_come b (Entries table k) = parts_in b table
parts_come b (Without j) = j
parts_come b (PartChoice j) = j
parts_come b Payments = suc b
parts_come b Rows = suc b
parts_come b (Members r) = suc b
parts_come b (Multipliers r) = suc b
parts_come b (RowChoice r) = suc b
parts_come b End = suc b
parts_come b Nothing = suc b

-- the line of the table before the one that is due
abbrev pub HasLineBefore : ℕ → ℕ → CertValue → NextLine → List ℤ → Type 0
HasLineBefore b s c (Entries table (suc k)) room = segment b s (Entries table k) room ≡ slice_index_or (table_in c table) k []
HasLineBefore b s c due room = Unit {0}

-- the members of the row that is read: that many numbers
abbrev pub HasMembers : ℕ → ℕ → CertValue → NextLine → ℕ → List ℤ → Type 0
HasMembers b s c (Multipliers r) count room = take count (segment b s (Members r) room) ≡ as_numbers (row_at c r).members
HasMembers b s c (RowChoice r) count room = take count (segment b s (Members r) room) ≡ as_numbers (row_at c r).members
HasMembers b s c due count room = Unit {0}

-- what the room has of a certificate when the line is due
pub record HasRoom (b s : ℕ) (c : CertValue) (due : NextLine) (members : ℕ) (room : List ℤ) : Type 0 where
  pub den : 1 ≤ fields_come due → segment b s Den room ≡ c.den ∷ []
  pub value : 2 ≤ fields_come due → segment b s Value room ≡ c.value ∷ []
  pub choice : 3 ≤ fields_come due → segment b s Choice room ≡ as_numbers c.choice
  pub pay : 4 ≤ fields_come due → segment b s Payments room ≡ c.pay
  pub parts : (j : ℕ) → 0 < j → j ≤ b → j < parts_come b due → IsTrue (uses c.choice j)
      → segment b s (PartChoice j) room ≡ as_numbers (part_of c.withouts j).choice
  pub before : HasLineBefore b s c due room
  pub members_are : HasMembers b s c due members room

-- the numbers of the certificate's line that is due, which has come: that many
pub record HasLine (b s : ℕ) (c : CertValue) (due : NextLine) (count : ℕ) (room : List ℤ) : Type 0 where
  pub first : take count (segment b s due room) ≡ (line_due b s c due).numbers
  pub whole : IsFixed (form_due b s due) → segment b s due room ≡ (line_due b s c due).numbers
