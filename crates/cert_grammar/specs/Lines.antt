-- The lines of a certificate: each is a word and numbers.
use Rattle.std.specs.Prelude.{◌≡◌, ℕ, zero, suc, ◌^◌, ◌≤◌, ◌<◌, Bool, true, false, ◌&&◌, nat_le, map, Option, List, [], ◌∷◌, ◌++◌, length, codes, replicate, ℤ, pos, negsuc, ◌≤ℤ◌, ◌<ℤ◌, unsigned_abs}
use Rattle.limits.specs.declared.TheConstants.{MOST_BIDDERS, MOST_STATES, FIRST_VERSION_BIDDERS, FIRST_VERSION_STATES}
use Rattle.line_format.specs.Numeral.{numbers_text}
use Rattle.line_format.specs.Range.{any_out}
use Rattle.cert_grammar.specs.Plan.{Follows, placed}

pub record Line : Type 0 where
  pub word : List ℕ
  pub numbers : List ℤ

-- the bytes of a line, its line feed left out
abbrev pub spell : Line → List ℕ
spell l = l.word ++ numbers_text l.numbers

-- a number of the line is out of range
abbrev pub over : Line → Bool
over l = any_out l.numbers

-- which numbers are on a line
pub data Numbers : Type 0 where
  -- just these
  these : List ℤ → Numbers
  -- that many signed numbers
  signed : ℕ → Numbers
  -- a choice of that many bidders
  chosen : ℕ → Numbers
  -- the choice of the head, for that many bidders and states: a part comes after it for each bidder that it uses
  headed : ℕ → ℕ → Numbers
  -- how many rows come after it, for that many bidders
  counted : ℕ → Numbers
  -- the members of a row
  members : ℕ → Numbers
  -- The choice of the head of a certificate of places, for that many bidders: a part with an order comes after it for each bidder
  -- that it uses.
  ordered_head : ℕ → Numbers
  -- how many rows with an order come after it, for that many bidders
  ordered_count : ℕ → Numbers

-- a kind of line: its word, and which numbers follow it
pub record Kind : Type 0 where
  pub word : List ℕ
  pub numbers : Numbers

-- each is at least 0 and at most this
abbrev pub AreNumbers : ℕ → List ℤ → Type 0
AreNumbers most [] = Unit {0}
AreNumbers most (n ∷ ns) = (pos 0 ≤ℤ n) × (n ≤ℤ pos most) × AreNumbers most ns

-- each is above the one before it, and at most the number of bidders
abbrev pub Rise : ℕ → ℤ → List ℤ → Type 0
Rise bidders before [] = Unit {0}
Rise bidders before (n ∷ ns) = (before <ℤ n) × (n ≤ℤ pos bidders) × Rise bidders n ns

-- the numbers of a line are such as its kind asks for
abbrev pub FitNumbers : Numbers → List ℤ → Type 0
FitNumbers (these ms) ns = ns ≡ ms
FitNumbers (signed count) ns = length ns ≡ count
FitNumbers (chosen bidders) ns = (length ns ≡ bidders) × AreNumbers 65535 ns
FitNumbers (headed bidders states) ns = (length ns ≡ bidders) × AreNumbers 65535 ns
-- a row has a member, so there is none if there is no bidder
FitNumbers (counted bidders) ns = (r : ℕ) × (ns ≡ pos r ∷ []) × (r ≤ 10) × (0 < r → 0 < bidders)
FitNumbers (members bidders) ns = (0 < length ns) × Rise bidders (pos 0) ns
FitNumbers (ordered_head bidders) ns = (length ns ≡ bidders) × AreNumbers 65535 ns
FitNumbers (ordered_count bidders) ns = (r : ℕ) × (ns ≡ pos r ∷ []) × (r ≤ 10) × (0 < r → 0 < bidders)

-- the line is one of this kind
pub record Fits (k : Kind) (l : Line) : Type 0 where
  pub word : l.word ≡ k.word
  pub numbers : FitNumbers k.numbers l.numbers

abbrev pub kind : List ℕ → Numbers → Kind
kind word numbers = record { word = word; numbers = numbers }

-- B + 1 lines of S numbers
abbrev pub table_plan : ℕ → ℕ → List Kind
table_plan bidders states = replicate (suc bidders) (kind (codes "t") (signed states))

-- the lines of the part without bidder j
abbrev pub part_plan : ℕ → ℕ → ℕ → List Kind
part_plan bidders states j = kind (codes "without") (these (pos j ∷ [])) ∷ kind (codes "choice") (chosen bidders) ∷ kind (codes "table") (these []) ∷ table_plan bidders states

-- nothing if the number is 0
abbrev pub unless_zero : ℤ → List Kind → List Kind
unless_zero (pos zero) kinds = []
unless_zero (pos (suc n)) kinds = kinds
unless_zero (negsuc n) kinds = kinds

-- a part for each bidder from j on whose number is not 0
abbrev pub parts_plan : ℕ → ℕ → ℕ → List ℤ → List Kind
parts_plan bidders states j [] = []
parts_plan bidders states j (n ∷ ns) = unless_zero n (part_plan bidders states j) ++ parts_plan bidders states (suc j) ns

-- the lines of that many rows
abbrev pub rows_plan : ℕ → ℕ → List Kind
rows_plan bidders zero = []
rows_plan bidders (suc r) = kind (codes "row") (members bidders) ∷ kind (codes "mult") (signed 2) ∷ kind (codes "choice") (chosen bidders) ∷ rows_plan bidders r

-- a table over sets of that many bidders: one line, with an entry for each set
abbrev pub set_table_plan : ℕ → List Kind
set_table_plan bidders = table_plan 0 (2 ^ bidders)

-- the lines of the part without bidder j, with an order before its choice
abbrev pub ordered_part_plan : ℕ → ℕ → List Kind
ordered_part_plan bidders j =
    kind (codes "without") (these (pos j ∷ [])) ∷ kind (codes "order") (chosen bidders) ∷ kind (codes "choice") (chosen bidders)
    ∷ kind (codes "table") (these []) ∷ set_table_plan bidders

-- such a part for each bidder from j on whose number is not 0
abbrev pub ordered_parts_plan : ℕ → ℕ → List ℤ → List Kind
ordered_parts_plan bidders j [] = []
ordered_parts_plan bidders j (n ∷ ns) = unless_zero n (ordered_part_plan bidders j) ++ ordered_parts_plan bidders (suc j) ns

-- the lines of that many rows, with an order before each choice
abbrev pub ordered_rows_plan : ℕ → ℕ → List Kind
ordered_rows_plan bidders zero = []
ordered_rows_plan bidders (suc r) =
    kind (codes "row") (members bidders) ∷ kind (codes "mult") (signed 2) ∷ kind (codes "order") (chosen bidders)
    ∷ kind (codes "choice") (chosen bidders) ∷ ordered_rows_plan bidders r

-- the size of the first number, and 0 if there is none
abbrev pub first_size : List ℤ → ℕ
first_size [] = 0
first_size (n ∷ ns) = unsigned_abs n

-- what a line puts into the plan
abbrev pub after_numbers : Numbers → List ℤ → List Kind
after_numbers (these ms) ns = []
after_numbers (signed count) ns = []
after_numbers (chosen bidders) ns = []
after_numbers (headed bidders states) ns = (kind (codes "table") (these []) ∷ table_plan bidders states) ++ parts_plan bidders states 1 ns
after_numbers (counted bidders) ns = rows_plan bidders (first_size ns)
after_numbers (members bidders) ns = []
after_numbers (ordered_head bidders) ns = (kind (codes "table") (these []) ∷ set_table_plan bidders) ++ ordered_parts_plan bidders 1 ns
after_numbers (ordered_count bidders) ns = ordered_rows_plan bidders (first_size ns)

abbrev pub after : Kind → Line → List Kind
after k l = after_numbers k.numbers l.numbers

-- so few bidders and states that the text is of the first version
abbrev pub is_first_version : ℕ → ℕ → Bool
is_first_version bidders states = nat_le bidders FIRST_VERSION_BIDDERS && nat_le states FIRST_VERSION_STATES

-- the version, and in the second one how many bidders and states there may be
abbrev pub version_of : Bool → List Line
version_of true = record { word = codes "cert"; numbers = pos 1 ∷ [] } ∷ []
version_of false = record { word = codes "cert"; numbers = pos 2 ∷ [] } ∷ record { word = codes "limits"; numbers = pos MOST_BIDDERS ∷ pos MOST_STATES ∷ [] } ∷ []

abbrev pub version_lines : ℕ → ℕ → List Line
version_lines bidders states = version_of (is_first_version bidders states)

-- just this line
abbrev pub just_line : Line → Kind
just_line l = kind l.word (these l.numbers)

abbrev pub version_plan : ℕ → ℕ → List Kind
version_plan bidders states = map just_line (version_lines bidders states)

-- what follows the version
abbrev pub body_plan : ℕ → ℕ → List Kind
body_plan bidders states =
    kind (codes "den") (signed 1) ∷ kind (codes "value") (signed 1) ∷ kind (codes "choice") (headed bidders states)
    ∷ kind (codes "pay") (signed bidders) ∷ kind (codes "rows") (counted bidders) ∷ kind (codes "lowered") (these []) ∷ (table_plan bidders states ++ kind (codes "end") (these []) ∷ [])

-- the plan of a certificate
abbrev pub cert_plan : ℕ → ℕ → List Kind
cert_plan bidders states = version_plan bidders states ++ body_plan bidders states

-- the lines are a certificate's for that many bidders and states
abbrev pub IsCertText : ℕ → ℕ → List Line → Type 0
IsCertText bidders states = Follows Fits after (cert_plan bidders states)

-- The plan of a certificate of places: its first line, an order before each choice, and tables over sets of bidders.
abbrev pub places_plan : ℕ → List Kind
places_plan bidders =
    kind (codes "pcert") (these (pos 1 ∷ [])) ∷ kind (codes "den") (signed 1) ∷ kind (codes "value") (signed 1) ∷ kind (codes "order") (chosen bidders)
    ∷ kind (codes "choice") (ordered_head bidders) ∷ kind (codes "pay") (signed bidders) ∷ kind (codes "rows") (ordered_count bidders)
    ∷ kind (codes "lowered") (these []) ∷ (set_table_plan bidders ++ kind (codes "end") (these []) ∷ [])

-- the lines are a certificate of places' for that many bidders
abbrev pub IsPlacesText : ℕ → List Line → Type 0
IsPlacesText bidders = Follows Fits after (places_plan bidders)

-- the bytes of each line, and for a line with a number out of range its place
abbrev pub lines : List Line → List (List ℕ × Option ℕ)
lines ls = placed spell over 0 ls
