use Rattle.std.proofs.Common.{◌≡◌, rules}
use Rattle.std.proofs.lemmas.Int.{to_z-of_z}
use mir.Val.{to_z, of_z}
use mir.Syntax.{w128}
use Rattle.core_laws.specs.Surplus.{surpluses_of}
use Rattle.blocking.proofs.look.best_choice.Goals as goal

pub returns-clause-found : goal.returns-clause-found
returns-clause-found g c =
    let d : to_z w128 (of_z w128 c.args.den) ≡ c.args.den = to_z-of_z w128 c.args.den (search rules) in
    let made : c.in_ok-surplus.surplus.items ≡ surpluses_of (g.C.Chooser.market c.args.chooser.now) (g.C.Chooser.chosen c.args.chooser.now) c.args.den
    c.args.at.now = rw d at c.in_ok-surplus.ensures in
    record {
      first = rw (d, c.deref.ensures.value, made) at c.in_ok-found.ensures.choice;
      sum = rw (d, c.deref.ensures.value, made) at c.in_ok-found.ensures.sum;
    }
