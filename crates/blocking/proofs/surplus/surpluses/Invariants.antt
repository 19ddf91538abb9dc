use Rattle.std.proofs.Common.{◌≡◌, ◌++◌, drop}
use Rattle.core_laws.specs.Surplus.{surpluses_of, surpluses_after}
use Rattle.blocking.proofs.surplus.surpluses.Given as goal

abbrev pub invariant-loop-k : goal.invariant-loop-k
invariant-loop-k g l = l.list.items ++ surpluses_after (g.C.Chooser.market l.chooser) (g.C.Chooser.chosen l.chooser) l.den l.k (drop l.k l.at) ≡ surpluses_of
    (g.C.Chooser.market l.chooser) (g.C.Chooser.chosen l.chooser) l.den l.at
