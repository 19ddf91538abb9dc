-- What an edit leaves of the lines of both sides, and the value of the winning choice.
use Rattle.std.specs.Prelude.{◌≡◌, ℕ, ◌+◌, ◌≤◌, ◌<◌, Bool, List, [], length, get_or, ℤ, ◌≤ℤ◌}
use Rattle.std.proofs.Common.{sym, ◌∙◌, ap, arith}
use Rattle.std.proofs.lemmas.Int.{ints}
use Rattle.auction_model.specs.Book.{Book, BookBid}
use Rattle.auction_model.specs.Greatest.{IsFirstGreatest, IsGreatestValue}
use Rattle.bid_book.specs.Changes.{with_bids}
use Rattle.review.specs.declared.lines.SideLines.{SideLines}
use Rattle.review.specs.ReviewValue.{AreFull, AreLeftLines, AreRightLines, lines_of}
use Rattle.review.specs.Reviewed.{AreSideLines}
use Rattle.review.proofs.EditedLines.{bidders-same, left-stays, right-stays}

module _ (book : Book) (j : ℕ) (bids : List BookBid) (some : 0 < j) where
  full-with : (lines : List (List ℤ)) → AreFull book lines → AreFull (with_bids book j bids) lines
  full-with lines full = record {
    count = full.count ∙ ap (λ (n : ℕ). n + 1) (sym (bidders-same book j bids some));
    places = λ k h. full.places k (omega (arith, h, bidders-same book j bids some));
  }

  -- the lines of the bidders after j and after later ones stay
  right-with : (lines : List (List ℤ)) (from to : ℕ) → from ≤ to → j ≤ to → AreRightLines book from lines → AreRightLines (with_bids book j bids) to lines
  right-with lines from to up own are = record {
    full = full-with lines are.full;
    exact = λ k low h. right-stays book j bids some k (get_or lines k []) (omega (arith, own, low))
        (are.exact k (omega (arith, up, low)) (omega (arith, h, bidders-same book j bids some)));
  }

  -- and those of the bidders up to each before j
  left-with : (lines : List (List ℤ)) (from to : ℕ) → to ≤ from → to < j → j ≤ length book.bidders → AreLeftLines book from lines
      → AreLeftLines (with_bids book j bids) to lines
  left-with lines from to down own known are = record {
    full = full-with lines are.full;
    exact = λ k high h.
        let low : k < j = omega (arith, high, own) in
        left-stays book j bids some k (get_or lines k []) low known (are.exact k (omega (arith, high, down)) (omega (arith, low, known)));
  }

  -- so the lines of a book that one bidder doesn't count in are those of the book in which it has other bids
  pub sides-with : (old new : SideLines) → AreSideLines book old → j ≤ length book.bidders → new.right ≡ old.right → new.left ≡ old.left
      → old.right_from ≤ new.right_from → j ≤ new.right_from → new.right_from ≤ length book.bidders → new.left_to ≤ old.left_to → new.left_to < j
      → new.buffers ≡ old.buffers → AreSideLines (with_bids book j bids) new
  sides-with old new are known right left up own last down low room = record {
    from = omega (arith, last, bidders-same book j bids some);
    to = omega (arith, down, are.to, bidders-same book j bids some);
    after = rw right (right-with (lines_of old.right.items) old.right_from new.right_from up own are.after);
    before = rw left (left-with (lines_of old.left.items) old.left_to new.left_to down low known are.before);
    buffers = rw room are.buffers;
  }

-- the first of the greatest has the greatest value
pub greatest-is : (passes : List ℕ → Bool) (value : List ℕ → ℤ) (c : List ℕ) (most : ℤ) → IsFirstGreatest passes value c → IsGreatestValue passes value most
    → most ≡ value c
greatest-is passes value c most g e =
    let up : value c ≤ℤ most = e.bound c g.passed in
    let down : value e.reached.0 ≤ℤ value c = g.greatest e.reached.0 e.reached.1 in
    omega (arith, ints, up, down, e.reached.2)
