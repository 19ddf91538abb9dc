use Rattle.std.proofs.Common.{◌≡◌, ◌++◌, ℕ, length, ap, sym, subst, ◌∙◌}
use Rattle.line_format.specs.Decimals.{decimals_text}
use Rattle.line_format.proofs.Lines.{none-so}
use Rattle.edits_file.specs.Stages.{BeginsWithCounts}
use Rattle.edits_file.proofs.FieldLaws.{ends_front, head_counts}
use Rattle.edits_file.proofs.fields.read_head.Goals as goal

pub returns-in_err-bidder-clause-none : goal.returns-in_err-bidder-clause-none
returns-in_err-bidder-clause-none c =
    none-so c.from_residual.result _
    (λ bidder lots rest head.
    c.in_err-bidder.ensures.none head.name (decimals_text lots ++ rest) head.named.name_is (ends_front lots rest head.ends) head.spelled)

pub returns-in_err-package-clause-none : goal.returns-in_err-package-clause-none
returns-in_err-package-clause-none c =
    let found = c.in_ok-bidder.ensures.found in
    let same : c.categories.result ≡ length c.args.book.now.supply = c.categories.ensures.count ∙ ap length c.supply.ensures.supply in
    none-so c.from_residual-in_err-package.result _
    (λ bidder lots rest head.
    c.in_err-package.ensures.none lots rest
    (subst (λ (k : ℕ). BeginsWithCounts k c.in_ok-bidder.more.now lots rest) (sym same)
    (head_counts c.args.book.now c.args.fields.now found.0 c.in_ok-bidder.more.now bidder lots rest found.1 found.2 found.3 head)))
