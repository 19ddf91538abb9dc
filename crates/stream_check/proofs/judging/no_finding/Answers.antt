use Rattle.std.proofs.Common.{sym, subst}
use Rattle.auction_model.specs.Prices.{weight_of}
use Rattle.std.proofs.lemmas.Bool.{false≢true}
use Rattle.stream_check.specs.Moments.{Shows}
use Rattle.stream_check.proofs.NextLaws.{plain}
use Rattle.stream_check.proofs.judging.no_finding.Goals as goal

pub returns : goal.returns
returns c = subst (Shows c.args.at.now) (sym c.of.ensures) (λ cert next is follows. (
  plain c.args.at.now.book.now (weight_of c.args.at.now.weights.now) cert c.args.at.now.due next c.args.at.now.late
      c.requires follows is.known.tested,
  λ seen. absurd (false≢true seen),
))
