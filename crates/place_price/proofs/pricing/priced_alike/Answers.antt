use Rattle.std.proofs.Common.{◌≡◌, ◌∙◌, ap, arith, subst, sym, List, ℕ, length, replicate}
use Rattle.auction_model.specs.Prices.{AreWeights}
use Rattle.book_price.proofs.Ones.{none-many, ones-weigh}
use Rattle.core_laws.specs.Weights.{ManyWin}
use Rattle.place_price.proofs.Allowed.{lawful, value-most}
use Rattle.place_price.proofs.FoundLaws.{stop-memory}
use Rattle.place_price.specs.Ones.{ones}
use Rattle.place_price.proofs.pricing.priced_alike.Goals as goal

pub price-requires-clause-weights : goal.price-requires-clause-weights
price-requires-clause-weights c =
    let slots = c.args.chooser.now.slots.now in
    let ones_are : c.deref.result.now ≡ ones slots = c.deref.ensures.value ∙ c.in_ok-weights.ensures.items_if_clones_equal (λ y e. e)
    ∙ ap (λ n. replicate n 1) c.bidders.ensures.bidders in
    subst (AreWeights (length slots.bidders)) (sym ones_are) (ones-weigh (length slots.bidders))

pub price-requires-clause-worth : goal.price-requires-clause-worth
price-requires-clause-worth c = value-most c.args.chooser.now.slots.now c.bidders.ensures.kept c.args.chooser.now.winners c.args.chooser.now.winning.passed

pub want_of_memory-requires : goal.want_of_memory-requires
want_of_memory-requires c =
    let slots = c.args.chooser.now.slots.now in
    let z = c.args.chooser.now.winners in
    let kept = c.bidders.ensures.kept in
    let long = (lawful slots kept).lengths z c.args.chooser.now.winning.passed in
    let few = kept.few in
    let ones_are : c.deref.result.now ≡ ones slots = c.deref.ensures.value ∙ c.in_ok-weights.ensures.items_if_clones_equal (λ y e. e)
    ∙ ap (λ n. replicate n 1) c.bidders.ensures.bidders in
    stop-memory z c.deref.result.now c.in-Err.stop
    (subst (λ (weights : List ℕ). ManyWin z weights → ⊥) (sym ones_are) (none-many z (length slots.bidders) (omega (arith, long)) (omega (arith, few))))
    c.in-Err.ensures.stops
