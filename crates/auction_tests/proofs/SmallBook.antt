-- The small book of the tests keeps the rules of a book.
use Rattle.std.proofs.Common.{inl, ◌≡◌, ◌≢◌, ℕ, ◌≤◌, List, [], ◌∷◌, ◌++◌, ap, refl, get_or, arith, codes}
use Rattle.auction_model.specs.Book.{Bidder, BookBid}
use Rattle.book_grammar.specs.BookForm.{IsName, IsNameByte}
use Rattle.book_grammar.specs.BookLines.{IsBookWithinLimits}
use Rattle.bid_book.specs.Lists.{book_of}

abbrev bid : ℕ → ℕ → BookBid
bid count amount = record { lots = count ∷ []; amount = amount }

abbrev bidder : List ℕ → List BookBid → Bidder
bidder name bids = record { name = name; bids = bids }

abbrev pub small_bidders : List Bidder
small_bidders = bidder (codes "east") (bid 1 20 ∷ bid 3 44 ∷ []) ∷ bidder (codes "west") (bid 2 24 ∷ []) ∷ []

letter : (c : ℕ) → 97 ≤ c → c ≤ 122 → IsNameByte c
letter c low high = inl (low, high)

east_is : IsName (codes "east")
east_is = (
  (omega arith, omega arith),
  (
    letter 97 (omega arith) (omega arith),
    (
      letter 115 (omega arith) (omega arith),
      (letter 116 (omega arith) (omega arith), tt),
    ),
  ),
  omega arith,
)

west_is : IsName (codes "west")
west_is = (
  (omega arith, omega arith),
  (
    letter 101 (omega arith) (omega arith),
    (
      letter 115 (omega arith) (omega arith),
      (letter 116 (omega arith) (omega arith), tt),
    ),
  ),
  omega arith,
)

other_name : codes "east" ≢ codes "west"
other_name is = let heads : 101 ≡ 119 = ap (λ (l : List ℕ). get_or l 0 0) is in omega (arith, heads)

-- each of its bids may follow the one before
pub small_rules : IsBookWithinLimits (book_of (3 ∷ []) (10 ∷ []) small_bidders)
small_rules = record {
  form = record {
    supply = record { some = omega arith; each = ((omega arith, omega arith), tt) };
    reserves = record { count = refl; each = (omega arith, tt) };
    bidders = (
      record {
        name = east_is;
        unused = tt;
        bids = (
          record { categories = refl; within = refl; after = inl (omega arith); reserve = omega arith; top = omega arith },
          (record { categories = refl; within = refl; after = inl (omega arith); reserve = omega arith; top = omega arith }, tt),
        );
      },
      (
        record {
          name = west_is;
          unused = (other_name, tt);
          bids = (record { categories = refl; within = refl; after = inl (omega arith); reserve = omega arith; top = omega arith }, tt);
        },
        tt,
      ),
    );
  };
  limits = refl;
}

-- whatever makes the lists of that book
pub small_lists : (supply none reserves : List ℕ) (nobody first both : List Bidder) (one two : List ℕ) (east west : List BookBid) → supply ≡ 3 ∷ []
    → none ≡ [] → reserves ≡ none ++ 10 ∷ [] → nobody ≡ [] → first ≡ nobody ++ bidder one east ∷ [] → both ≡ first ++ bidder two west ∷ []
    → one ≡ codes "east" → two ≡ codes "west" → east ≡ bid 1 20 ∷ bid 3 44 ∷ [] → west ≡ bid 2 24 ∷ [] → IsBookWithinLimits (book_of supply reserves both)
small_lists supply none reserves nobody first both one two east west a b c d e f g h i j = rw (f, e, d, c, b, a, g, h, i, j) small_rules
