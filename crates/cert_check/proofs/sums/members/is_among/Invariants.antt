use Rattle.std.proofs.Common.{◌≡◌, drop}
use Rattle.cert_grammar.specs.Certificate.{is_member}
use Rattle.cert_check.proofs.sums.members.is_among.Given as goal

abbrev pub invariant-loop-member : goal.invariant-loop-member
invariant-loop-member l = is_member (drop l.member-index l.members) l.j ≡ is_member l.members l.j
