use Rattle.std.proofs.Common.{◌∷◌}
use Rattle.std.specs.Fmt.{decimal}
use Rattle.line_format.proofs.Lines.{none-so}
use Rattle.edits_file.proofs.FieldLaws.{bid_head, made_bid, no_bid}
use Rattle.edits_file.proofs.fields.read_bid.Goals as goal

pub returns-in_err-bidder-clause-none : goal.returns-in_err-bidder-clause-none
returns-in_err-bidder-clause-none c =
    none-so c.from_residual.result _
    (λ bidder lots amount is.
    c.in_err-bidder.ensures.none bidder lots (32 ∷ decimal amount) (bid_head c.args.book.now c.args.fields.now bidder lots amount is))

pub returns-in_err-amount-clause-none : goal.returns-in_err-amount-clause-none
returns-in_err-amount-clause-none c =
    none-so c.from_residual-in_err-amount.result _
    (no_bid c.args.book.now c.args.fields.now c.in_ok-bidder.bidder c.in_ok-bidder.package c.in_ok-bidder.rest.now c.in_ok-bidder.ensures.found
    c.in_err-amount.ensures.none)

pub returns-clause-found : goal.returns-clause-found
returns-clause-found c =
    made_bid c.args.book.now c.args.fields.now c.in_ok-bidder.bidder c.in_ok-bidder.package c.in_ok-bidder.rest.now c.in_ok-amount.amount
    c.in_ok-bidder.ensures.found c.in_ok-amount.ensures.found
