use Rattle.std.proofs.Common.{◌≡◌, ◌∙◌, ℕ, sym, subst}
use Rattle.cert_soundness.specs.Tests.{bidders_of, states}
use Rattle.table_check.specs.Faults.{FirstFault}
use Rattle.table_check.specs.LineTests.{ObeysIn}
use Rattle.cert_check.proofs.whole.grids.rule_fault.Goals as goal

pub returns-then-k-bidders-clause-place : goal.returns-then-k-bidders-clause-place
returns-then-k-bidders-clause-place c =
    let o = c.args.offers.now in
    let last : c.args.k ≡ bidders_of o.book.now = c.if-k-bidders.true ∙ c.bidders.ensures.bidders in
    subst (λ (n : ℕ). FirstFault (ObeysIn o c.args.table.now n) (states o.book.now) c.bottom_fault.result) (sym last) c.bottom_fault.ensures
