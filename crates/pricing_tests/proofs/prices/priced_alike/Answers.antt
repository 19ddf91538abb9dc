use Rattle.std.proofs.Common.{◌∙◌, ap, replicate, subst, sym}
use Rattle.cert_soundness.specs.Tests.{bidders_of}
use Rattle.auction_model.specs.Prices.{AreWeights}
use Rattle.book_price.proofs.Ones.{ones-weigh}
use Rattle.pricing_tests.proofs.prices.priced_alike.Goals as goal

pub price_book-requires : goal.price_book-requires
price_book-requires c =
    let weights = c.deref.ensures.value ∙ c.in_ok-weights.ensures.items_if_clones_equal (λ y e. e) ∙ ap (λ n. replicate n 1) c.bidders.ensures.bidders in
    subst (AreWeights (bidders_of c.args.book.now)) (sym weights) (ones-weigh (bidders_of c.args.book.now))
