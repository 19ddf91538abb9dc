use Rattle.std.proofs.Common.{◌≡◌, ◌+◌, suc, arith, sym, length, ℕ, subst}
use Rattle.table_check.specs.Faults.{FirstFault}
use Rattle.table_check.specs.LineTests.{offered, KeepsSome}
use Rattle.table_check.proofs.TableLines.{line-obeys}
use Rattle.table_check.proofs.lines.two_lines_found.Goals as goal

pub line_fault-requires-clause-sizes : goal.line_fault-requires-clause-sizes
line_fault-requires-clause-sizes c = λ s. let small = c.requires.sizes s in omega (arith, small)

pub returns-clause-place : goal.returns-clause-place
returns-clause-place c = λ table is line_is below_is.
    let o = c.args.offers.now in
    let next : c.args.k + 1 ≡ suc c.args.k = omega arith in
    line-obeys o table is c.args.k c.line_fault.result.place c.args.line.now c.args.below.now c.requires.number (sym line_is) (sym below_is)
    (subst (λ (j : ℕ). FirstFault (KeepsSome o j c.args.line.now c.args.below.now ((offered o).bids j)) (length c.args.line.now) c.line_fault.result.place) next
    c.line_fault.ensures.place)
