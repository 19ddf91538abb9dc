use Rattle.std.proofs.Common.{◌↔◌, drop}
use Rattle.cert_grammar.specs.CertText.{AreMembers}
use Rattle.cert_text.proofs.read.fields.rise.Given as goal

abbrev pub invariant-loop-j : goal.invariant-loop-j
invariant-loop-j l = AreMembers l.bidders 0 l.numbers ↔ AreMembers l.bidders l.before (drop l.j-index l.numbers)
