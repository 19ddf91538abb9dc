use Rattle.std.proofs.Common.{◌≡◌, ℕ, true, false, List, length, get_or, map, sym, ap, ◌∙◌, arith, below_more}
use Rattle.std.proofs.lemmas.Bool.{false≢true}
use Rattle.std.proofs.lemmas.List.{get_or-map, length-map}
use Rattle.auction_model.specs.Book.{BookBid, no_bid}
use Rattle.auction_model.specs.PackageTests.{is_before}
use Rattle.auction_model.proofs.PackageTestLaws.{comes-is_before}
use Rattle.bid_book.specs.Fields.{bid_value}
use Rattle.bid_book.proofs.PlaceLaws.{not-comes}
use Rattle.bid_book.proofs.book.changes.place_of.Goals as goal

pub returns-then-not-comes_before : goal.returns-then-not-comes_before
returns-then-not-comes_before c =
    let place = c.loop-place.place in
    let bids = c.args.bids.now in
    let counts = c.counts.result.now in
    let wanted = c.counts-in-loop-place.result.now in
    let lots : (get_or (map bid_value bids) place no_bid).lots ≡ counts =
    ap (λ (b : BookBid). b.lots) (get_or-map bid_value bids place c.index-bids-place.result no_bid c.loop-place-test.true) ∙ sym c.counts.ensures in
    let count : length counts ≡ length wanted =
    ap (λ (l : List ℕ). length l) c.counts.ensures ∙ c.requires place c.index-bids-place.result c.loop-place-test.true
    ∙ ap (λ (l : List ℕ). length l) (sym c.counts-in-loop-place.ensures) in
    let late : is_before counts wanted ≡ false = not-comes counts wanted count (λ comes. absurd
    (false≢true (sym c.if-not-comes_before.true ∙ c.comes_before.ensures.1 comes))) in
    record {
      last = omega (arith, c.loop-place-test.true, length-map bids bid_value);
      before = c.loop-place.invariant;
      behind = λ _. rw (lots, ← c.counts-in-loop-place.ensures) late;
    }

pub loop-place-preserved : goal.loop-place-preserved
loop-place-preserved c =
    let place = c.loop-place.place in
    let bids = c.args.bids.now in
    let lots : (get_or (map bid_value bids) place no_bid).lots ≡ c.counts.result.now =
    ap (λ (b : BookBid). b.lots) (get_or-map bid_value bids place c.index-bids-place.result no_bid c.loop-place-test.true) ∙ sym c.counts.ensures in
    below_more (λ (k : ℕ). is_before (get_or (map bid_value bids) k no_bid).lots c.args.wanted.now ≡ true) place c.loop-place.invariant
    (rw (lots, ← c.counts-in-loop-place.ensures) (comes-is_before c.counts.result.now c.counts-in-loop-place.result.now
    (c.comes_before.ensures.0 c.if-not-comes_before.false)))
