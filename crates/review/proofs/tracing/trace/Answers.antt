use Rattle.std.proofs.Common.{List, [], ap, append_assoc, arith, get_or, length, rules, set, subst, sym, take, vec_len, ℕ, ℤ, ◌++◌, ◌+◌, ◌-◌, ◌<◌}
use Rattle.std.proofs.Common.{◌∙◌, ◌∷◌, ◌≡◌, ◌≤◌}
use Rattle.std.proofs.lemmas.Int.{to_z-of_z}
use Rattle.std.proofs.lemmas.List.{append-nil, take_all, take_more_set}
use Rattle.std.proofs.Math.ListN.{length-set}
use Rattle.auction_model.specs.Book.{market_of, menu_of, net_of}
use Rattle.auction_model.specs.Greatest.{IsFirstGreatest, IsWinning}
use Rattle.auction_model.specs.Market.{sum_after}
use Rattle.auction_model.specs.Menu.{fits_after}
use Rattle.auction_model.specs.Place.{left_at, states_of}
use Rattle.auction_model.specs.Steps.{IsFirstNumber}
use Rattle.auction_model.specs.Table.{IsEntry}
use Rattle.auction_model.proofs.PlaceLaws.{left_at-whole, states-positive}
use Rattle.auction_model.proofs.TraceLaws.{first-last}
use Rattle.auction_model.proofs.WalkLaws.{walk-by}
use Rattle.value_table.specs.SideLines.{IsRightLine}
use Rattle.review.proofs.LineSets.{count-of, entry-read, line-read, read-own}
use mir.Val.{SFits}
use mir.Syntax.{w128}
use Rattle.review.proofs.tracing.trace.Goals as goal

pub loop-k-init : goal.loop-k-init
loop-k-init c =
    let supply = c.args.book.now.supply in
    let states : c.states-place.result ≡ states_of supply = c.states-place.ensures.states ∙ ap states_of c.supply.ensures.supply in
    record {
      place = omega (arith, states, states-positive supply);
      count = c.requires.count;
      rest = λ r g. rw (states, left_at-whole) at g;
    }

pub index-requires : goal.index-requires
index-requires c =
    let lines = c.args.right.now in
    let k = c.loop-k.k in
    let inside : k < length lines = omega (arith, c.bidders-k-end.ensures.bidders, c.requires.right.full.count, count-of lines k) in
    let own = read-own lines k c.index-right-k.result inside c.index-right-k.is in
    let long : vec_len c.index-right-k.result ≡ length c.index-right-k.result.items = search rules in
    omega (
      arith,
      long,
      ap (λ (l : List ℤ). length l) own,
      c.requires.right.full.places k (omega (arith, c.bidders-k-end.ensures.bidders)),
      c.loop-k.invariant.place,
    )

pub right_number-number-requires-clause-entry : goal.right_number-number-requires-clause-entry
right_number-number-requires-clause-entry c =
    let k = c.loop-k.k in
    let here = c.index.result.now in
    let fits : SFits w128 here = search rules in
    let down : k + 1 - 1 ≡ k = omega arith in
    let read : here ≡ get_or (get_or c.args.right.now k c.index-right-k.result).items c.loop-k.place here = cc (c.index.ensures, c.index-right-k.is) in
    rw (down, to_z-of_z w128 here fits)
    (entry-read c.args.book.now c.args.right.now k c.index-right-k.result c.loop-k.place here (omega (arith, c.bidders-k-end.ensures.bidders))
    c.loop-k.invariant.place c.requires.right read)

pub right_number-number-requires-clause-after : goal.right_number-number-requires-clause-after
right_number-number-requires-clause-after c =
    let k = c.loop-k.k in
    let is : c.deref.result.now ≡ (get_or c.args.right.now (k + 1) c.index-right-k-in-loop-k.result).items =
    cc (c.deref.ensures.value, c.index-right-k-in-loop-k.is) in
    line-read c.args.book.now c.args.right.now (k + 1) c.index-right-k-in-loop-k.result c.deref.result.now
    (omega (arith, c.bidders-k-end.ensures.bidders)) c.requires.right is

pub loop-k-preserved : goal.loop-k-preserved
loop-k-preserved c =
    let book = c.args.book.now in
    let m = menu_of book in
    let k = c.loop-k.k in
    let place = c.loop-k.place in
    let choice = c.loop-k.choice in
    let number = c.right_number-number.result in
    let here = c.index.result.now in
    let fits : SFits w128 here = search rules in
    let here_same = to_z-of_z w128 here fits in
    let down : k + 1 - 1 ≡ k = omega arith in
    let inside : k + 1 ≤ length book.bidders = omega (arith, c.bidders-k-end.ensures.bidders) in
    let low : k < length choice = omega (arith, inside, c.loop-k.invariant.count) in
    let read : here ≡ get_or (get_or c.args.right.now k c.index-right-k.result).items place here = cc (c.index.ensures, c.index-right-k.is) in
    let e : IsEntry m (net_of book) k (left_at book.supply place) here = entry-read book c.args.right.now k c.index-right-k.result place here
    (omega (arith, inside)) c.loop-k.invariant.place c.requires.right read in
    let e_down : IsEntry m (net_of book) (k + 1 - 1) (left_at book.supply place) here = rw down e in
    let is : c.deref.result.now ≡ (get_or c.args.right.now (k + 1) c.index-right-k-in-loop-k.result).items =
    cc (c.deref.ensures.value, c.index-right-k-in-loop-k.is) in
    let below : IsRightLine book (k + 1) c.deref.result.now = line-read book c.args.right.now (k + 1) c.index-right-k-in-loop-k.result c.deref.result.now
    inside c.requires.right is in
    let first : IsFirstNumber m (net_of book) book.supply (k + 1) place here c.deref.result.now number = rw here_same at c.right_number-number.ensures.first in
    let placed : c.set.new.self ≡ set choice k number = c.set.ensures ∙ ap (λ (n : ℕ). set choice n number) down in
    let walk : (r : List ℕ) → IsFirstGreatest (fits_after m (k + 1) (left_at book.supply c.place_left-place.result)) (sum_after (net_of book) (k + 1)) r
    → IsFirstGreatest (fits_after m k (left_at book.supply place)) (sum_after (net_of book) k) (number ∷ r) =
    λ r g. rw down at (walk-by m (net_of book) book.supply (k + 1) place (omega arith) inside c.loop-k.invariant.place here c.deref.result.now e_down below
    number r c.right_number-number.ensures.known first (rw c.place_left-place.ensures.place at g)) in
    record {
      place = c.place_left-place.ensures.below;
      count = ap (λ (l : List ℕ). length l) placed ∙ length-set choice k number ∙ c.loop-k.invariant.count;
      rest = λ r g.
          let front : take (k + 1) c.set.new.self ++ r ≡ take k choice ++ (number ∷ r) =
          ap (λ (l : List ℕ). take (k + 1) l ++ r) placed ∙ ap (λ (l : List ℕ). l ++ r) (take_more_set choice k number low)
          ∙ append_assoc (take k choice) (number ∷ []) r in
          subst (IsWinning (market_of book)) (sym front) (c.loop-k.invariant.rest (number ∷ r) (walk r g));
    }

pub returns : goal.returns
returns c =
    let book = c.args.book.now in
    let m = menu_of book in
    let k = c.loop-k.k in
    let all : k ≡ m.bidders = omega (arith, c.bidders-k-end.ensures.bidders) in
    let last : IsFirstGreatest (fits_after m k (left_at book.supply c.loop-k.place)) (sum_after (net_of book) k) [] =
    rw all (first-last m (net_of book) (left_at book.supply c.loop-k.place)) in
    let whole : take k c.loop-k.choice ++ [] ≡ c.loop-k.choice = append-nil (take k c.loop-k.choice)
    ∙ take_all k c.loop-k.choice (omega (arith, all, c.loop-k.invariant.count)) in
    subst (IsWinning (market_of book)) whole (c.loop-k.invariant.rest [] last)
