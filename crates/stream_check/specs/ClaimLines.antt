-- The lines whose tests need what the first three have shown.
use Rattle.cert_stream.specs.declared.due.NextLine.{NextLine}
use Rattle.cert_stream.specs.declared.due.NextLine.TheVariants as next
use Rattle.cert_stream.specs.declared.due.Table.TheVariants.{Lowered}
use Rattle.stream_check.specs.declared.judging.claims.ClaimLine.{ClaimLine}
use Rattle.stream_check.specs.declared.judging.claims.ClaimLine.TheVariants as claim

-- which line of a certificate it is
abbrev pub due_of : ClaimLine → NextLine
due_of claim.Payments = next.Payments
due_of claim.Rows = next.Rows
due_of (claim.Row left) = next.RowChoice left
due_of (claim.Lowered k) = next.Entries Lowered k
