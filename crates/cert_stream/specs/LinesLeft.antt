-- The lines of a certificate that are still to come.
use Rattle.std.specs.Prelude.{◌≡◌, ℕ, ◌-◌, ◌≤◌, nat_le, Bool, true, false, List, [], ◌∷◌, ◌++◌, codes, drop, take, get_or, length, ℤ, pos, slice_index_or, if◌then◌else◌}
use Rattle.limits.specs.declared.TheConstants.{MOST_BIDDERS, MOST_STATES}
use Rattle.cert_grammar.specs.Certificate.{CertValue, RowValue, WithoutValue, part_of}
use Rattle.cert_grammar.specs.Lines.{Line, is_first_version}
use Rattle.cert_grammar.specs.CertText.{IsCertificate, IsWithout, as_numbers, choice_line, line, part_lines, row_lines, table_lines}
use Rattle.cert_stream.specs.declared.due.NextLine.{NextLine}
use Rattle.cert_stream.specs.declared.due.NextLine.TheVariants.{Version, Limits, Den, Value, Choice, Title, Entries, Without, PartChoice, Payments, Rows, Members, Multipliers, RowChoice, End, Nothing}
use Rattle.cert_stream.specs.declared.due.Table.{Table}
use Rattle.cert_stream.specs.declared.due.Table.TheVariants.{Head, Part, Lowered}
use Rattle.cert_stream.specs.Dues.{title_of, version_number}
use Rattle.cert_stream.specs.Rooms.{start_due}

-- the parts after bidder j
abbrev pub parts_behind : ℕ → List WithoutValue → List WithoutValue
parts_behind j [] = []
parts_behind j (w ∷ ws) = if nat_le w.winner j then parts_behind j ws else w ∷ ws

-- the table of this name
abbrev pub table_in : CertValue → Table → List (List ℤ)
table_in c Head = c.table
table_in c (Part j) = (part_of c.withouts j).table
table_in c Lowered = c.lowered

abbrev pub end_line : List Line
end_line = line (codes "end") [] ∷ []

-- what follows the rows
abbrev pub closing_left : CertValue → List Line
closing_left c = line (codes "lowered") [] ∷ (table_lines c.lowered ++ end_line)

-- the last r rows and what follows them
abbrev pub rows_left : CertValue → ℕ → List Line
rows_left c r = row_lines (drop (length c.rows - r) c.rows) ++ closing_left c

-- the count of rows and what follows it
abbrev pub counted_left : CertValue → List Line
counted_left c = line (codes "rows") (pos (length c.rows) ∷ []) ∷ (row_lines c.rows ++ closing_left c)

-- the parts after bidder j and what follows them
abbrev pub parts_left : CertValue → ℕ → List Line
parts_left c j = part_lines (parts_behind j c.withouts) ++ line (codes "pay") c.pay ∷ counted_left c

-- what follows a table
abbrev pub table_left : CertValue → Table → List Line
table_left c Head = parts_left c 0
table_left c (Part j) = parts_left c j
table_left c Lowered = end_line

-- the row with r rows to come, itself included
abbrev pub row_at : CertValue → ℕ → RowValue
row_at c r = slice_index_or c.rows (length c.rows - r) (record { members = []; first = pos 0; second = pos 0; choice = [] })

-- a table's word, its lines, and what follows it
abbrev pub titled_left : CertValue → Table → List Line
titled_left c table = line (title_of table) [] ∷ (table_lines (table_in c table) ++ table_left c table)

abbrev pub limits_line : Line
limits_line = line (codes "limits") (pos MOST_BIDDERS ∷ pos MOST_STATES ∷ [])

-- the line of limits, which only the second version has
abbrev pub limits_lines : Bool → List Line
limits_lines true = []
limits_lines false = limits_line ∷ []

-- what follows the version
abbrev pub opening_left : CertValue → List Line
opening_left c = line (codes "den") (c.den ∷ []) ∷ line (codes "value") (c.value ∷ []) ∷ choice_line c.choice ∷ titled_left c Head

-- the lines of a certificate for that many bidders and states, from the one on that is due
abbrev pub lines_left : ℕ → ℕ → CertValue → NextLine → List Line
lines_left b s c Version = line (codes "cert") (pos (version_number (is_first_version b s)) ∷ []) ∷ (limits_lines (is_first_version b s) ++ opening_left c)
lines_left b s c Limits = limits_line ∷ opening_left c
lines_left b s c Den = opening_left c
lines_left b s c Value = line (codes "value") (c.value ∷ []) ∷ choice_line c.choice ∷ titled_left c Head
lines_left b s c Choice = choice_line c.choice ∷ titled_left c Head
lines_left b s c (Title table) = titled_left c table
lines_left b s c (Entries table k) = table_lines (drop k (table_in c table)) ++ table_left c table
lines_left b s c (Without j) = line (codes "without") (pos j ∷ []) ∷ choice_line (part_of c.withouts j).choice ∷ titled_left c (Part j)
lines_left b s c (PartChoice j) = choice_line (part_of c.withouts j).choice ∷ titled_left c (Part j)
lines_left b s c Payments = line (codes "pay") c.pay ∷ counted_left c
lines_left b s c Rows = counted_left c
lines_left b s c (Members r) = rows_left c r
lines_left b s c (Multipliers r) = line (codes "mult") ((row_at c r).first ∷ (row_at c r).second ∷ []) ∷ choice_line (row_at c r).choice ∷ rows_left c (r - 1)
lines_left b s c (RowChoice r) = choice_line (row_at c r).choice ∷ rows_left c (r - 1)
lines_left b s c End = end_line
lines_left b s c Nothing = []

-- the line of it that is due
abbrev pub line_due : ℕ → ℕ → CertValue → NextLine → Line
line_due b s c Version = line (codes "cert") (pos (version_number (is_first_version b s)) ∷ [])
line_due b s c Limits = limits_line
line_due b s c Den = line (codes "den") (c.den ∷ [])
line_due b s c Value = line (codes "value") (c.value ∷ [])
line_due b s c Choice = choice_line c.choice
line_due b s c (Title table) = line (title_of table) []
line_due b s c (Entries table k) = line (codes "t") (slice_index_or (table_in c table) k [])
line_due b s c (Without j) = line (codes "without") (pos j ∷ [])
line_due b s c (PartChoice j) = choice_line (part_of c.withouts j).choice
line_due b s c Payments = line (codes "pay") c.pay
line_due b s c Rows = line (codes "rows") (pos (length c.rows) ∷ [])
line_due b s c (Members r) = line (codes "row") (as_numbers (row_at c r).members)
line_due b s c (Multipliers r) = line (codes "mult") ((row_at c r).first ∷ (row_at c r).second ∷ [])
line_due b s c (RowChoice r) = choice_line (row_at c r).choice
line_due b s c End = line (codes "end") []
line_due b s c Nothing = line [] []

-- the certificate has the part whose table it is
abbrev pub HasPart : ℕ → ℕ → CertValue → Table → Type 0
HasPart b s c Head = Unit {0}
HasPart b s c (Part j) = IsWithout b s j (part_of c.withouts j)
HasPart b s c Lowered = Unit {0}

-- the certificate has what the line names: its part, or that many rows
abbrev pub HasDue : ℕ → ℕ → CertValue → NextLine → Type 0
HasDue b s c (Title table) = HasPart b s c table
HasDue b s c (Entries table k) = HasPart b s c table
HasDue b s c (Without j) = HasPart b s c (Part j)
HasDue b s c (PartChoice j) = HasPart b s c (Part j)
HasDue b s c (Members r) = r ≤ length c.rows
HasDue b s c (Multipliers r) = r ≤ length c.rows
HasDue b s c (RowChoice r) = r ≤ length c.rows
HasDue b s c due = Unit {0}

-- the certificate has this choice if the line after depends on it, and that many rows
abbrev pub Tells : CertValue → NextLine → List ℤ → ℤ → Type 0
Tells c (Entries table k) choice first = choice ≡ as_numbers c.choice
Tells c Rows choice first = first ≡ pos (length c.rows)
Tells c due choice first = Unit {0}

-- after the certificate's line that is due this one comes
pub record ComesNext (b s : ℕ) (c : CertValue) (due next : NextLine) : Type 0 where
  pub left : lines_left b s c due ≡ line_due b s c due ∷ lines_left b s c next
  pub has : HasDue b s c next

-- Of each certificate of this choice: these lines are what is left when this line is due, and it has what that line names.
abbrev pub AreLeft : ℕ → ℕ → List ℤ → (CertValue → List Line) → NextLine → Type 0
AreLeft b s choice left next = (c : CertValue) → IsCertificate b s c → choice ≡ as_numbers c.choice
    → (left c ≡ lines_left b s c next) × HasDue b s c next

-- Of each certificate that this choice and count belong to: after its line that is due, this one comes.
abbrev pub Leads : ℕ → ℕ → NextLine → List ℤ → ℤ → NextLine → Type 0
Leads b s due choice first next = (c : CertValue) → IsCertificate b s c → Tells c due choice first → HasDue b s c due
    → ComesNext b s c due next

-- the next line, if the room has the choice and the count
abbrev pub LeadsInRoom : ℕ → ℕ → NextLine → List ℤ → NextLine → Type 0
LeadsInRoom b s due room next = Leads b s due (take b room) (get_or room (start_due b s due) (pos 0)) next
