-- The plan of a certificate's lines, by the line that is to come.
use Rattle.std.specs.Prelude.{◌≡◌, ℕ, suc, ◌-◌, ◌<◌, ◌≤◌, Bool, true, false, List, [], ◌∷◌, ◌++◌, codes, drop, replicate, ℤ, pos}
use Rattle.limits.specs.declared.TheConstants.{MOST_BIDDERS, MOST_STATES}
use Rattle.cert_grammar.specs.CertText.{line}
use Rattle.cert_grammar.specs.Lines.{Kind, Line, Numbers, after_numbers, chosen, counted, headed, is_first_version, kind, members, parts_plan, rows_plan}
use Rattle.cert_grammar.specs.Lines.{signed, table_plan, these}
use Rattle.cert_text.specs.StagePlans.{closing_plan}
use Rattle.cert_stream.specs.declared.due.NextLine.{NextLine}
use Rattle.cert_stream.specs.declared.due.NextLine.TheVariants.{Version, Limits, Den, Value, Choice, Title, Entries, Without, PartChoice, Payments, Rows, Members, Multipliers, RowChoice, End, Nothing}
use Rattle.cert_stream.specs.declared.due.Table.{Table}
use Rattle.cert_stream.specs.declared.due.Table.TheVariants.{Head, Part, Lowered}

-- the word of the line before a table
abbrev pub title_of : Table → List ℕ
title_of Head = codes "table"
title_of (Part j) = codes "table"
title_of Lowered = codes "lowered"

-- the word of the line
abbrev pub word_of : NextLine → List ℕ
word_of Version = codes "cert"
word_of Limits = codes "limits"
word_of Den = codes "den"
word_of Value = codes "value"
word_of Choice = codes "choice"
word_of (Title table) = title_of table
word_of (Entries table k) = codes "t"
word_of (Without j) = codes "without"
word_of (PartChoice j) = codes "choice"
word_of Payments = codes "pay"
word_of Rows = codes "rows"
word_of (Members r) = codes "row"
word_of (Multipliers r) = codes "mult"
word_of (RowChoice r) = codes "choice"
word_of End = codes "end"
word_of Nothing = []

-- the number of the version
abbrev pub version_number : Bool → ℕ
version_number true = 1
version_number false = 2

-- which numbers are on the line
abbrev pub numbers_due : ℕ → ℕ → NextLine → Numbers
numbers_due bidders states Version = these (pos (version_number (is_first_version bidders states)) ∷ [])
numbers_due bidders states Limits = these (pos MOST_BIDDERS ∷ pos MOST_STATES ∷ [])
numbers_due bidders states Den = signed 1
numbers_due bidders states Value = signed 1
numbers_due bidders states Choice = headed bidders states
numbers_due bidders states (Title table) = these []
numbers_due bidders states (Entries table k) = signed states
numbers_due bidders states (Without j) = these (pos j ∷ [])
numbers_due bidders states (PartChoice j) = chosen bidders
numbers_due bidders states Payments = signed bidders
numbers_due bidders states Rows = counted bidders
numbers_due bidders states (Members r) = members bidders
numbers_due bidders states (Multipliers r) = signed 2
numbers_due bidders states (RowChoice r) = chosen bidders
numbers_due bidders states End = these []
numbers_due bidders states Nothing = these []

-- the line's kind
abbrev pub kind_due : ℕ → ℕ → NextLine → Kind
kind_due bidders states due = kind (word_of due) (numbers_due bidders states due)

-- a line with these numbers
abbrev pub line_with : NextLine → List ℤ → Line
line_with due numbers = line (word_of due) numbers

-- what comes after the parts
abbrev pub ending : ℕ → ℕ → List Kind
ending bidders states = kind (codes "pay") (signed bidders) ∷ kind (codes "rows") (counted bidders) ∷ closing_plan bidders states

-- the parts of the bidders after the first j, and what comes after them
abbrev pub from_part : ℕ → ℕ → List ℤ → ℕ → List Kind
from_part bidders states choice j = parts_plan bidders states (suc j) (drop j choice) ++ ending bidders states

-- what comes after a table
abbrev pub after_table : ℕ → ℕ → List ℤ → Table → List Kind
after_table bidders states choice Head = from_part bidders states choice 0
after_table bidders states choice (Part j) = from_part bidders states choice j
after_table bidders states choice Lowered = kind (codes "end") (these []) ∷ []

-- the line of limits, which only the second version has
abbrev pub limits_plan : Bool → List Kind
limits_plan true = []
limits_plan false = kind (codes "limits") (these (pos MOST_BIDDERS ∷ pos MOST_STATES ∷ [])) ∷ []

-- what comes after the version and its limits, up to the choice and after the parts
abbrev pub opening : ℕ → ℕ → List Kind
opening b s = kind_due b s Den ∷ kind_due b s Value ∷ kind_due b s Choice ∷ ending b s

-- the lines after it, for the head's choice
abbrev pub behind : ℕ → ℕ → List ℤ → NextLine → List Kind
behind b s choice Version = limits_plan (is_first_version b s) ++ opening b s
behind b s choice Limits = opening b s
behind b s choice Den = kind_due b s Value ∷ kind_due b s Choice ∷ ending b s
behind b s choice Value = kind_due b s Choice ∷ ending b s
behind b s choice Choice = ending b s
behind b s choice (Title table) = table_plan b s ++ after_table b s choice table
behind b s choice (Entries table k) = replicate (b - k) (kind (codes "t") (signed s)) ++ after_table b s choice table
behind b s choice (Without j) = kind (codes "choice") (chosen b) ∷ kind (codes "table") (these []) ∷ (table_plan b s ++ from_part b s choice j)
behind b s choice (PartChoice j) = kind (codes "table") (these []) ∷ (table_plan b s ++ from_part b s choice j)
behind b s choice Payments = kind (codes "rows") (counted b) ∷ closing_plan b s
behind b s choice Rows = closing_plan b s
behind b s choice (Members r) = kind (codes "mult") (signed 2) ∷ kind (codes "choice") (chosen b) ∷ (rows_plan b (r - 1) ++ closing_plan b s)
behind b s choice (Multipliers r) = kind (codes "choice") (chosen b) ∷ (rows_plan b (r - 1) ++ closing_plan b s)
behind b s choice (RowChoice r) = rows_plan b (r - 1) ++ closing_plan b s
behind b s choice End = []
behind b s choice Nothing = []

-- all lines that are to come
abbrev pub plan_due : ℕ → ℕ → List ℤ → NextLine → List Kind
plan_due b s choice Nothing = []
plan_due b s choice due = kind_due b s due ∷ behind b s choice due

-- after a line of these numbers this one is due
abbrev pub Follows : ℕ → ℕ → List ℤ → NextLine → List ℤ → NextLine → Type 0
Follows b s choice due ns next = after_numbers (numbers_due b s due) ns ++ behind b s choice due ≡ plan_due b s choice next

-- the table has a bidder of the certificate
abbrev pub IsTableOf : ℕ → Table → Type 0
IsTableOf bidders Head = Unit {0}
IsTableOf bidders (Part j) = (0 < j) × (j ≤ bidders)
IsTableOf bidders Lowered = Unit {0}

-- so is each number that the line names
abbrev pub IsDue : ℕ → NextLine → Type 0
IsDue bidders (Title table) = IsTableOf bidders table
IsDue bidders (Entries table k) = IsTableOf bidders table × (k ≤ bidders)
IsDue bidders (Without j) = (0 < j) × (j ≤ bidders)
IsDue bidders (PartChoice j) = (0 < j) × (j ≤ bidders)
IsDue bidders (Members r) = (0 < r) × (0 < bidders)
IsDue bidders (Multipliers r) = (0 < r) × (0 < bidders)
IsDue bidders (RowChoice r) = (0 < r) × (0 < bidders)
IsDue bidders due = Unit {0}

-- what is known of the line's numbers: the head's choice, or the count of rows
abbrev pub IsKnown : NextLine → List ℤ → List ℤ → ℤ → Type 0
IsKnown Choice ns choice first = choice ≡ ns
IsKnown Rows ns choice first = ns ≡ first ∷ []
IsKnown due ns choice first = Unit {0}
