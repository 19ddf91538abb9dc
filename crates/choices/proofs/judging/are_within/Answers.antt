use Rattle.std.proofs.Common.{◌≡◌, ◌<◌, ◌+◌, ◌∙◌, true, get_or, length, drop, [], refl, sym, ap, arith}
use Rattle.std.proofs.lemmas.List.{drop_all}
use Rattle.auction_model.specs.Book.{lots_of, menu_of}
use Rattle.auction_model.specs.Menu.{fits_after}
use Rattle.auction_model.specs.Place.{left_at, states_of}
use Rattle.auction_model.proofs.ChoiceLaws.{fits-fails, fits-goes_on, known-length, known-of}
use Rattle.auction_model.proofs.MenuLaws.{fits-at_end}
use Rattle.auction_model.proofs.PlaceLaws.{left_at-less, left_at-whole, states-positive}
use Rattle.choices.proofs.judging.are_within.Goals as goal

pub overflow_sub-place : goal.overflow_sub-place
overflow_sub-place c = omega (arith, c.states-place.ensures.states, states-positive c.supply.result.now)

pub loop-k-init : goal.loop-k-init
loop-k-init c =
    let supply = c.args.book.now.supply in
    let states : c.states-place.result ≡ states_of supply = c.states-place.ensures.states ∙ ap states_of c.supply.ensures.supply in
    record {
      place = omega (arith, states, states-positive supply);
      rest = rw (states, left_at-whole) refl;
    }

pub bounds-numbers-k : goal.bounds-numbers-k
bounds-numbers-k c = omega (arith, known-length (menu_of c.args.book.now) 0 c.args.numbers.now c.requires, c.bidders-k-end.ensures.bidders)

pub place_after-requires-clause-bid : goal.place_after-requires-clause-bid
place_after-requires-clause-bid c =
    let inside : c.loop-k.k < length c.args.numbers.now = omega (
      arith,
      known-length (menu_of c.args.book.now) 0 c.args.numbers.now c.requires,
      c.bidders-k-end.ensures.bidders,
    ) in
    known-of (menu_of c.args.book.now) c.args.numbers.now c.loop-k.k c.requires inside

pub returns-in-None : goal.returns-in-None
returns-in-None c =
    let m = menu_of c.args.book.now in
    let numbers = c.args.numbers.now in
    let k = c.loop-k.k in
    let inside : k < length numbers = omega (arith, known-length m 0 numbers c.requires, c.bidders-k-end.ensures.bidders) in
    sym (fits-fails m numbers k inside (left_at c.args.book.now.supply c.loop-k.place) (known-of m numbers k c.requires inside) c.in-None.ensures.exceeds)
    ∙ c.loop-k.invariant.rest

pub loop-k-preserved : goal.loop-k-preserved
loop-k-preserved c =
    let m = menu_of c.args.book.now in
    let supply = c.args.book.now.supply in
    let numbers = c.args.numbers.now in
    let k = c.loop-k.k in
    let place = c.loop-k.place in
    let inside : k < length numbers = omega (arith, known-length m 0 numbers c.requires, c.bidders-k-end.ensures.bidders) in
    let own = lots_of c.args.book.now (k + 1) (get_or numbers k 0) in
    let left = ap (left_at supply) c.in-Some.ensures.left ∙ left_at-less supply own place c.loop-k.invariant.place in
    record {
      place = c.in-Some.ensures.below;
      rest = ap (λ l. fits_after m (k + 1) l (drop (k + 1) numbers)) left
          ∙ sym (fits-goes_on m numbers k inside (left_at supply place) (known-of m numbers k c.requires inside) c.in-Some.ensures.fits)
          ∙ c.loop-k.invariant.rest;
    }

pub returns : goal.returns
returns c =
    let m = menu_of c.args.book.now in
    let numbers = c.args.numbers.now in
    let k = c.loop-k.k in
    let left = left_at c.args.book.now.supply c.loop-k.place in
    let all : k ≡ m.bidders = omega (arith, c.bidders-k-end.ensures.bidders) in
    let empty : drop k numbers ≡ [] = drop_all k numbers (omega (arith, known-length m 0 numbers c.requires)) in
    let end : fits_after m k left (drop k numbers) ≡ true = rw (empty, all) (fits-at_end m left) in
    sym end ∙ c.loop-k.invariant.rest
