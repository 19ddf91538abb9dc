use Rattle.std.proofs.Common.{◌+◌, ◌*◌, ℕ, ◌∙◌, ap}
use Rattle.auction_model.specs.Prices.{weight_of}
use Rattle.cert_soundness.specs.Tests.{bidders_of, states}
use Rattle.cert_stream.specs.declared.due.NextLine.TheVariants.{Entries}
use Rattle.cert_stream.specs.declared.due.Table.TheVariants.{Lowered}
use Rattle.stream_check.proofs.LoweredCome.{late-one}
use Rattle.stream_check.proofs.TableCome.{lowered-late}
use Rattle.stream_check.proofs.judging.claims.late_sum.Goals as goal

pub returns-then-k-ne0 : goal.returns-then-k-ne0
returns-then-k-ne0 c = λ cert is. late-one c.args.at.now cert is c.args.k c.requires.due c.if-k-ne0.true

pub keeps_sum-requires-clause-due : goal.keeps_sum-requires-clause-due
keeps_sum-requires-clause-due c = c.requires.due ∙ ap (λ (n : ℕ). Entries Lowered n) c.if-k-ne0.false

pub returns : goal.returns
returns c = λ cert is.
    let at = c.args.at.now in
    let first = c.requires.due ∙ ap (λ (n : ℕ). Entries Lowered n) c.if-k-ne0.false in
    c.merge_early.ensures at.book.now (weight_of at.weights.now) cert 9 ((bidders_of at.book.now + 1) * states at.book.now)
    (lowered-late c.args.at.now cert is 0 first) (λ none. c.keeps_sum.ensures cert is)
