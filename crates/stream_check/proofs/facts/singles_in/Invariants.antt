use Rattle.std.proofs.Common.{◌≡◌, ◌++◌, drop}
use Rattle.cert_grammar.specs.Certificate.{CertValue}
use Rattle.stream_check.specs.WholeRoom.{HasAll}
use Rattle.stream_check.proofs.FactLaws.{singles_behind}
use Rattle.stream_check.proofs.facts.singles_in.Given as goal

abbrev pub invariant-loop-k : goal.invariant-loop-k
invariant-loop-k l = (c : CertValue) → HasAll l.book c l.room → c.choice ≡ l.choice → l.singles ++ singles_behind l.book c l.k
    (drop l.k l.choice) ≡ singles_behind l.book c 0 l.choice
