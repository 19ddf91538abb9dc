use Rattle.std.proofs.Common.{◌∙◌, subst, sym}
use Rattle.auction_model.specs.Prices.{AreWeights}
use Rattle.book_price.proofs.Ones.{ones-weigh}
use Rattle.cert_soundness.specs.Tests.{bidders_of}
use Rattle.cca_commands.proofs.pricing.price_alike.Goals as goal

pub price_weighed-requires : goal.price_weighed-requires
price_weighed-requires c = subst (AreWeights (bidders_of c.args.book.now)) (sym (c.deref.ensures.value ∙ c.in_ok-weights.ensures))
    (ones-weigh (bidders_of c.args.book.now))
