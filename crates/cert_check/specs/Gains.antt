-- What the bidders gain at the payments, and what lowering their worths by it needs.
use Rattle.std.specs.Prelude.{◌≡◌, ℕ, ◌<◌, ◌≤◌, ◌^◌, List, length, ℤ, pos, ◌*ℤ◌, ◌-ℤ◌, unsigned_abs, if◌then◌else◌}
use Rattle.auction_model.specs.Book.{Book, bids_of, market_of, net_of}
use Rattle.auction_model.specs.Lowered.{of_bidder}
use Rattle.auction_model.specs.Market.{number_of, uses, worth_in}
use Rattle.cert_soundness.specs.Tests.{bidders_of}

pub record CanLower (book : Book) (den : ℤ) (choice : List ℕ) (pay : List ℤ) : Type 0 where
  pub numbers : length choice ≡ bidders_of book
  pub payments : length pay ≡ bidders_of book
  pub known : (j : ℕ) → 0 < j → j ≤ bidders_of book → number_of choice j ≤ length (bids_of book j)
  pub nets : (j i : ℕ) → 0 < j → j ≤ bidders_of book → i ≤ length (bids_of book j)
      → unsigned_abs (den *ℤ net_of book j i) < 2 ^ 120
  pub paid : (j : ℕ) → unsigned_abs (of_bidder pay j) < 2 ^ 120

-- what a winner gains at the payments, times the denominator
abbrev pub gain_of : Book → ℤ → List ℕ → List ℤ → ℕ → ℤ
gain_of book den choice pay j = if uses choice j then (den *ℤ worth_in (market_of book) choice j) -ℤ of_bidder pay j else pos 0
