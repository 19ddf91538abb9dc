use Rattle.std.proofs.Common.{◌<◌, [], length, arith}
use Rattle.line_format.proofs.Lines.{none-so}
use Rattle.edits_file.proofs.FieldLaws.{no_package, package_head}
use Rattle.edits_file.proofs.fields.read_package.Goals as goal

pub returns-in_err-bidder-clause-none : goal.returns-in_err-bidder-clause-none
returns-in_err-bidder-clause-none c =
    none-so c.from_residual.result _
    (λ bidder lots is. c.in_err-bidder.ensures.none bidder lots [] (package_head c.args.book.now c.args.fields.now bidder lots is))

pub returns-then-not-is_empty-clause-none : goal.returns-then-not-is_empty-clause-none
returns-then-not-is_empty-clause-none c =
    let some : 0 < length c.in_ok-bidder.rest.now = grind (arith, c.is_empty.ensures, c.if-not-is_empty.true, c.if-not-is_empty.ensures) in
    no_package c.args.book.now c.args.fields.now c.in_ok-bidder.bidder c.in_ok-bidder.package c.in_ok-bidder.rest.now c.in_ok-bidder.ensures.found some
