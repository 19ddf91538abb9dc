-- Books within the limits of an auction, as far as the length of a certificate depends on them.
use Rattle.std.specs.Prelude.{ℕ, ◌≤◌, length, unsigned_abs}
use Rattle.limits.specs.declared.TheConstants.{MOST_AMOUNT, MOST_BIDDERS, MOST_STATES}
use Rattle.auction_model.specs.Book.{Book, bids_of, net_of}
use Rattle.cert_soundness.specs.Tests.{bidders_of, states}

-- that many bidders and states at most, and no net amount is larger than an amount may be
pub record IsWithinSizes (book : Book) : Type 0 where
  pub bidders : bidders_of book ≤ MOST_BIDDERS
  pub states : states book ≤ MOST_STATES
  pub amounts : (j i : ℕ) → i ≤ length (bids_of book j) → unsigned_abs (net_of book j i) ≤ MOST_AMOUNT
