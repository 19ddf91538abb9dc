-- What the worths of a table need: no number leaves the range.
use Rattle.std.specs.Prelude.{ℕ, ◌<◌, ◌≤◌, ◌^◌, List, length, ℤ, ◌*ℤ◌, ◌-ℤ◌, unsigned_abs}
use Rattle.auction_model.specs.Book.{Book, bids_of, net_of}
use Rattle.auction_model.specs.Lowered.{of_bidder}
use Rattle.cert_soundness.specs.Tests.{bidders_of}

-- den times a net amount, less what its bidder gains
abbrev pub worth_with : Book → ℤ → List ℤ → ℕ → ℕ → ℤ
worth_with book den gains j i = (den *ℤ net_of book j i) -ℤ of_bidder gains j

-- each bidder has a gain, and no worth is too large
pub record HasSmallWorths (book : Book) (den : ℤ) (gains : List ℤ) : Type 0 where
  pub count : bidders_of book ≤ length gains
  pub nets : (j i : ℕ) → 0 < j → j ≤ bidders_of book → i ≤ length (bids_of book j)
      → unsigned_abs (den *ℤ net_of book j i) < 2 ^ 120
  pub gained : (j : ℕ) → 0 < j → j ≤ bidders_of book → unsigned_abs (of_bidder gains j) < 2 ^ 121
