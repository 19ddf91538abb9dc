use Rattle.std.proofs.Common.{◌≡◌, ◌-◌, List, arith, sym, subst}
use Rattle.slot_places.specs.Steps.{AreBests}
use Rattle.slot_places.specs.declared.bests.Best.{Best}
use Rattle.slot_places.proofs.TableLaws.{bests-front}
use Rattle.slot_places.proofs.bests.all_bests.Goals as goal

pub loop-set-preserved : goal.loop-set-preserved
loop-set-preserved c =
    let l = c.args.search.now in
    subst (λ (xs : List Best). AreBests l (c.loop-set.set - 1) xs) (sym {A = List Best} c.in_ok-insert.ensures.items)
    (bests-front l c.loop-set.set c.loop-set.bests.items c.in_ok-best.best (omega arith) c.loop-set.invariant c.in_ok-best.ensures)

pub returns : goal.returns
returns c =
    let none : c.loop-set.set ≡ 0 = omega arith in
    subst (λ n. AreBests c.args.search.now n c.loop-set.bests.items) none c.loop-set.invariant
