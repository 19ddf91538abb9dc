-- The bids that come before the choice's bids in the order of ties.
use Rattle.std.specs.Prelude.{◌≡◌, ℕ, suc, ◌+◌, ◌*◌, ◌^◌, ◌<◌, ◌≤◌, IsTrue, List, length, drop, ℤ, ◌+ℤ◌, ◌-ℤ◌, ◌<ℤ◌, unsigned_abs}
use Rattle.auction_model.specs.Package.{is_within, less}
use Rattle.auction_model.specs.Place.{left_at, place_of}
use Rattle.auction_model.specs.Market.{is_number_before, number_of}
use Rattle.auction_model.specs.Book.{Book, bids_of, lots_of, menu_of, net_of}
use Rattle.cert_grammar.specs.Certificate.{CertValue}
use Rattle.auction_model.specs.Menu.{fits_after}
use Rattle.cert_soundness.specs.Tests.{NoEarlier, bidders_of, left_after, states, worth_before}
use Rattle.limits.specs.declared.TheConstants.{MOST_AMOUNT}
use Rattle.wide_num.specs.Sums.{nth}

-- if bid i of bidder j fits what a place leaves, its net amount with the line's entry for the rest is below a bound
abbrev pub StaysBelow : Book → ℕ → List ℤ → ℕ → ℤ → ℕ → Type 0
StaysBelow book j line rest bound i =
    IsTrue (is_within (lots_of book j i) (left_at book.supply rest))
    → (net_of book j i +ℤ nth line (place_of book.supply (less (left_at book.supply rest) (lots_of book j i)))) <ℤ bound

-- so do all bids of bidder j that come before its number in the choice
abbrev pub AllStayBelow : Book → List ℕ → ℕ → List ℤ → ℕ → ℤ → Type 0
AllStayBelow book choice j line rest bound =
    (i : ℕ) → IsTrue (is_number_before i (number_of choice j)) → i ≤ length (bids_of book j)
    → StaysBelow book j line rest bound i

-- what the last part of C3 asks of bidder j
abbrev pub NoneEarlier : Book → CertValue → ℕ → Type 0
NoneEarlier book c j = (k : ℕ) → k < bidders_of book → j ≡ suc k
    → NoEarlier (menu_of book) (net_of book) book.supply c.table c.choice c.value k

-- what the bids of the first k bidders of a choice leave of the supply and of the value; the bids after them fit it
pub record IsLeft (book : Book) (choice : List ℕ) (value : ℤ) (k rest : ℕ) (bound : ℤ) : Type 0 where
  pub place : rest < states book
  pub left : left_at book.supply rest ≡ left_after (menu_of book) book.supply choice k
  pub fits : IsTrue (fits_after (menu_of book) k (left_at book.supply rest) (drop k choice))
  pub bound_is : bound ≡ value -ℤ worth_before (net_of book) choice k
  pub size : unsigned_abs bound ≤ 2 ^ 120 + k * MOST_AMOUNT
