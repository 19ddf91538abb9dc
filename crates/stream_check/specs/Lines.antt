-- What is known of a certificate at a line, and after it.
use Rattle.std.specs.Prelude.{◌≡◌, ℕ, List, ◌++◌, Bool, Option, Some, None, length, ℤ, pos}
use Rattle.auction_model.specs.Book.{Book}
use Rattle.cert_grammar.specs.Certificate.{CertValue}
use Rattle.cert_grammar.specs.CertText.{IsCertificate, as_numbers, cert_lines}
use Rattle.cert_grammar.specs.Lines.{Line}
use Rattle.cert_soundness.specs.Tests.{FailsFirst, bidders_of, states}
use Rattle.cert_check.specs.declared.failure.Failure.{Failure}
use Rattle.cert_stream.specs.declared.due.NextLine.{NextLine}
use Rattle.cert_stream.specs.Dues.{IsDue}
use Rattle.cert_stream.specs.LinesLeft.{HasDue, lines_left}
use Rattle.cert_stream.specs.Order.{ComesBehind}
use Rattle.stream_check.specs.declared.row_totals.RowTotals.{RowTotals}
use Rattle.stream_check.specs.Grown.{IsGrown}
use Rattle.stream_check.specs.InRoom.{HasRoom, HasLine}
use Rattle.stream_check.specs.Totals.{HasTotals}
use Rattle.stream_check.specs.Tests.{IsTestedTo}

-- all tests pass as far as they are made, and the room and the totals have what the tests after need
pub record IsOpen (book : Book) (w : ℕ → ℕ) (c : CertValue) (due : NextLine) (late : Option ℕ) (members : ℕ) (grows : Bool) (totals : RowTotals) (room : List ℤ) : Type 0 where
  pub has : HasDue (bidders_of book) (states book) c due
  pub named : IsDue (bidders_of book) due
  pub tested : IsTestedTo book w c due late
  pub in_room : HasRoom (bidders_of book) (states book) c due members room
  pub grown : IsGrown book c due grows
  pub in_totals : HasTotals c due totals

-- the line that is due has come
pub record IsAtLine (book : Book) (w : ℕ → ℕ) (c : CertValue) (due : NextLine) (count : ℕ) (late : Option ℕ) (members : ℕ) (grows : Bool) (totals : RowTotals) (room : List ℤ) : Type 0 where
  pub kept : IsCertificate (bidders_of book) (states book) c
  pub known : IsOpen book w c due late members grows totals room
  pub own : HasLine (bidders_of book) (states book) c due count room

-- after the line that was due this one comes
abbrev pub IsNext : Book → CertValue → NextLine → NextLine → Type 0
IsNext book c due next = ComesBehind (bidders_of book) (as_numbers c.choice) (pos (length c.rows)) due next

-- what these lines have left of the certificate, and what is known of it
pub record IsLeft (book : Book) (w : ℕ → ℕ) (c : CertValue) (rest : List Line) (due : NextLine) (late : Option ℕ) (members : ℕ) (grows : Bool) (totals : RowTotals) (room : List ℤ) : Type 0 where
  pub left : rest ≡ lines_left (bidders_of book) (states book) c due
  pub known : IsOpen book w c due late members grows totals room

-- that, or what fails first
abbrev pub HasCome : Book → (ℕ → ℕ) → CertValue → List Line → NextLine → Option Failure → Option ℕ → ℕ → Bool → RowTotals → List ℤ
    → Type 0
HasCome book w c rest due (Some f) late members grows totals room = FailsFirst book w c f.test f.place
HasCome book w c rest due None late members grows totals room = IsLeft book w c rest due late members grows totals room

-- of each certificate that begins with these lines
abbrev pub IsKnown : Book → (ℕ → ℕ) → NextLine → Option Failure → Option ℕ → ℕ → Bool → RowTotals → List ℤ → List Line → Type 0
IsKnown book w due failed late members grows totals room items = (c : CertValue)
    → IsCertificate (bidders_of book) (states book) c → (rest : List Line) → cert_lines c ≡ items ++ rest
    → HasCome book w c rest due failed late members grows totals room
