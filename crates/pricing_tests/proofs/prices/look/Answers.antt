use Rattle.std.proofs.Common.{◌≡◌, ◌∙◌, arith, rules, length, pos, ℤ, negsuc, ◌<◌, ◌≤◌, ◌^◌, ◌≤ℤ◌, unsigned_abs, slice_index_or}
use Rattle.std.proofs.lemmas.Int.{ints}
use Rattle.auction_model.specs.Book.{market_of}
use Rattle.core_laws.specs.Winners.{winners_in}
use Rattle.core_price.proofs.LookLaws.{can-look}
use Rattle.book_price.proofs.Worths.{value-most}
use Rattle.pricing_tests.proofs.prices.look.Goals as goal

small-size : (z : ℤ) → pos 0 ≤ℤ z → z ≤ℤ pos 1000000 → unsigned_abs z < 2 ^ 109
small-size (pos a) h k = omega (arith, ints)
small-size (negsuc a) h k = absurd (omega (arith, ints))

pub find_block-requires : goal.find_block-requires
find_block-requires g c =
    let chooser = c.args.chooser.now in
    let book = chooser.book.now in
    let z = chooser.winners in
    let paid = c.args.paid.now in
    let long : length paid ≡ winners_in z = search rules in
    let few : winners_in z ≤ 6 = search rules in
    let each = c.are_payments.ensures (search rules) in
    let bidders = c.bidders-bidders.ensures in
    rw (c.deref.ensures.value ∙ c.in_ok-at.ensures) (can-look (market_of book) chooser.lawful z chooser.winning
    (omega (arith, bidders.bidders, bidders.most)) few (value-most book z bidders.kept.most chooser.winning.passed) (pos 1) paid long
    (omega (arith, ints)) (omega (arith, ints)) (λ i inside. (each i (omega (arith, long, inside))).0)
    (λ i inside. (let own = each i inside in small-size (slice_index_or paid i (pos 0)) own.0 own.1)))
