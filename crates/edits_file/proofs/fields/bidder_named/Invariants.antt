use Rattle.std.proofs.Common.{◌≡◌, drop}
use Rattle.edits_file.specs.EditsForm.{number_among}
use Rattle.edits_file.proofs.fields.bidder_named.Given as goal

abbrev pub invariant-loop-j : goal.invariant-loop-j
invariant-loop-j l = number_among l.name 0 l.book.bidders ≡ number_among l.name l.j (drop l.j l.book.bidders)
