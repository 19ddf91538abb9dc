-- How far the tests of a certificate are, by the line that is due.
use Rattle.std.specs.Prelude.{◌≡◌, ℕ, zero, suc, ◌+◌, ◌-◌, ◌*◌, ◌<◌, ◌⊎◌, IsTrue, length, Option, Some, None, ◌≤ℤ◌}
use Rattle.auction_model.specs.Book.{Book, market_of, menu_of, net_of}
use Rattle.auction_model.specs.Market.{number_of, uses, value_of}
use Rattle.auction_model.specs.Menu.{without}
use Rattle.auction_model.specs.Table.{entry_at}
use Rattle.cert_grammar.specs.Certificate.{CertValue, WithoutValue, part_of}
use Rattle.cert_soundness.specs.Tests.{FailsFirst, ObeysAt, bidders_of, full, states}
use Rattle.cert_check.specs.Partway.{HoldsTo, IsLate}
use Rattle.cert_check.specs.declared.failure.Failure.{Failure}
use Rattle.cert_stream.specs.declared.due.NextLine.{NextLine}
use Rattle.cert_stream.specs.declared.due.NextLine.TheVariants.{Version, Limits, Den, Value, Choice, Title, Entries, Without, PartChoice, Payments, Rows, Members, Multipliers, RowChoice, End, Nothing}
use Rattle.cert_stream.specs.declared.due.Table.{Table}
use Rattle.cert_stream.specs.declared.due.Table.TheVariants.{Head, Part, Lowered}

-- the test of a table
abbrev pub test_in : Table → ℕ
test_in Head = 3
test_in (Part j) = 4
test_in Lowered = 9

-- the first test that isn't made whole when the line is due
abbrev pub test_due : NextLine → ℕ
test_due Version = 1
test_due Limits = 1
test_due Den = 1
test_due Value = 1
test_due Choice = 2
test_due (Title table) = test_in table
test_due (Entries table k) = test_in table
test_due (Without j) = 4
test_due (PartChoice j) = 4
test_due Payments = 5
test_due Rows = 6
test_due (Members r) = 6
test_due (Multipliers r) = 6
test_due (RowChoice r) = 6
test_due End = 10
test_due Nothing = 10

-- a line of a table is tested when the next one has come; a part has one place for all its lines
abbrev pub place_in : ℕ → Table → ℕ → ℕ
place_in states Head k = (k - 1) * states
place_in states (Part j) k = j
place_in states Lowered k = (k - 1) * states

-- the first place of that test that isn't tested yet
abbrev pub place_due : ℕ → CertValue → NextLine → ℕ
place_due states c (Title table) = place_in states table 0
place_due states c (Entries table k) = place_in states table k
place_due states c (Without j) = j
place_due states c (PartChoice j) = j
place_due states c (Members r) = suc (length c.rows - r)
place_due states c (Multipliers r) = suc (length c.rows - r)
place_due states c (RowChoice r) = suc (length c.rows - r)
place_due states c due = 0

-- one at most
abbrev pub one_of : ℕ → ℕ
one_of zero = 0
one_of (suc k) = 1

-- What was found early of the places after the rules of a table: one place for each line of the head's table, and one for the lowered
-- table, when its first line has come.
abbrev pub IsLateDue : Book → (ℕ → ℕ) → CertValue → NextLine → Option ℕ → Type 0
IsLateDue book w c (Entries Head k) late = IsLate book w c 3 ((bidders_of book + 1) * states book) k late
IsLateDue book w c (Entries Lowered k) late = IsLate book w c 9 ((bidders_of book + 1) * states book) (one_of k) late
IsLateDue book w c due late = late ≡ None

-- the first k lines of a part's table have come, and nothing speaks against the part
pub record IsPartTo (book : Book) (j : ℕ) (part : WithoutValue) (k : ℕ) : Type 0 where
  pub allowed : IsTrue ((market_of book).allowed part.choice)
  pub unused : number_of part.choice j ≡ 0
  pub rules : (l s : ℕ) → suc l < k → s < states book
      → ObeysAt (without (menu_of book) j) (net_of book) book.supply part.table l s
  pub top : 0 < k → entry_at part.table 0 (full book) ≤ℤ value_of (market_of book) part.choice

-- so it is with the part that is read, if one is
abbrev pub IsPartDue : Book → CertValue → NextLine → Type 0
IsPartDue book c (Without j) = IsTrue (uses c.choice j)
IsPartDue book c (PartChoice j) = IsTrue (uses c.choice j)
IsPartDue book c (Title (Part j)) = IsTrue (uses c.choice j) × IsPartTo book j (part_of c.withouts j) 0
IsPartDue book c (Entries (Part j) k) = IsTrue (uses c.choice j) × IsPartTo book j (part_of c.withouts j) k
IsPartDue book c due = Unit {0}

-- all that is known of the tests of a certificate when the line is due
pub record IsTestedTo (book : Book) (w : ℕ → ℕ) (c : CertValue) (due : NextLine) (late : Option ℕ) : Type 0 where
  pub holds : HoldsTo book w c (test_due due) (place_due (states book) c due)
  pub early : IsLateDue book w c due late
  pub part : IsPartDue book c due

-- that, or what fails first
abbrev pub IsFound : Book → (ℕ → ℕ) → CertValue → NextLine → Option Failure → Option ℕ → Type 0
IsFound book w c due (Some f) late = FailsFirst book w c f.test f.place
IsFound book w c due None late = IsTestedTo book w c due late

-- no test waits for the line
abbrev pub IsPlain : NextLine → Type 0
IsPlain Version = Unit {0}
IsPlain Limits = Unit {0}
IsPlain Den = Unit {0}
IsPlain (Title table) = Unit {0}
IsPlain (Without j) = Unit {0}
IsPlain (Members r) = Unit {0}
IsPlain (Multipliers r) = Unit {0}
IsPlain End = Unit {0}
IsPlain Nothing = Unit {0}
IsPlain due = ⊥

-- the rows may end with the line
abbrev pub IsRowsEnd : NextLine → Type 0
IsRowsEnd due = (due ≡ Rows) ⊎ ((r : ℕ) × (due ≡ RowChoice r))
