-- What a line that has come shows of each certificate that has it there.
use Rattle.std.specs.Prelude.{◌≡◌, ℕ, ◌<◌, ◌≤◌, length}
use Rattle.auction_model.specs.Prices.{weight_of}
use Rattle.cert_check.specs.Fields.{IsOf}
use Rattle.cert_check.specs.declared.claim.Claim.{Claim}
use Rattle.auction_model.specs.Book.{net_of}
use Rattle.cert_soundness.specs.Tests.{bidders_of, lowered_net}
use Rattle.table_check.specs.LineTests.{worth_of}
use Rattle.table_check.specs.declared.offers.TestedBids.{TestedBids}
use Rattle.cert_grammar.specs.Certificate.{CertValue}
use Rattle.stream_check.specs.declared.judging.finding.Finding.{Finding}
use Rattle.stream_check.specs.declared.moment.LineContext.{LineContext}
use Rattle.cert_stream.specs.declared.due.NextLine.{NextLine}
use Rattle.stream_check.specs.Grown.{IsGrown}
use Rattle.stream_check.specs.Totals.{AreTotals}
use Rattle.stream_check.specs.Lines.{IsAtLine, IsNext}
use Rattle.stream_check.specs.Tests.{IsFound, IsRowsEnd}

-- the certificate may be the one whose line it is
abbrev pub IsAt : LineContext → CertValue → Type 0
IsAt at c = IsAtLine at.book.now (weight_of at.weights.now) c at.due at.count at.late at.members at.grows at.totals.now at.room.now

-- there is such a certificate
abbrev pub IsPossible : LineContext → Type 0
IsPossible at = (c : CertValue) × IsAt at c

-- this is what the tests have shown when the next line is due, and how the line grows
abbrev pub Shows : LineContext → Finding → Type 0
Shows at f = (c : CertValue) (next : NextLine) → IsAt at c → IsNext at.book.now c at.due next
    → IsFound at.book.now (weight_of at.weights.now) c next f.failed f.late × IsGrown at.book.now c next f.grows

-- the claim is each such certificate's
pub record IsClaimOf (at : LineContext) (a : Claim) : Type 0 where
  pub book : a.book.now ≡ at.book.now
  pub each : (c : CertValue) → IsAt at c → IsOf a c

-- The multipliers of all its rows have come, and the tests before them are made. It is the line of the last row, or of the
-- count if there is none.
pub record HasAllRows (at : LineContext) : Type 0 where
  pub line : IsRowsEnd at.due
  pub totals : (c : CertValue) → IsAt at c → AreTotals c (length c.rows) at.totals.now

-- the offers are the bids of all but one bidder, at their net amounts
pub record ArePlain (at : LineContext) (o : TestedBids) (skip : ℕ) : Type 0 where
  pub book : o.book.now ≡ at.book.now
  pub skip_is : o.skip ≡ skip
  pub net : (j i : ℕ) → 0 < j → j ≤ bidders_of o.book.now → worth_of o j i ≡ net_of o.book.now j i

-- the offers are all bids, at the lowered worths of each such certificate
pub record AreLowered (at : LineContext) (o : TestedBids) : Type 0 where
  pub book : o.book.now ≡ at.book.now
  pub nobody : o.skip ≡ 0
  pub net : (c : CertValue) → IsAt at c → (j i : ℕ) → 0 < j → j ≤ bidders_of o.book.now
      → worth_of o j i ≡ lowered_net o.book.now c j i
