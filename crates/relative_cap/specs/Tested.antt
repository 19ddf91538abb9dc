-- The entries of a list that is tested, the highest amounts over them, and the caps that these say.
use Rattle.std.specs.Prelude.{◌≡◌, ℕ, ◌+◌, ◌-◌, ◌≤◌, ◌<◌, max, min, Bool, List, [], ◌∷◌, ◌++◌, Option, Some, None, length, nat_lt, slice_index, slice_set, take, if◌then◌else◌}
use Rattle.std.specs.List.{All}
use Rattle.limits.specs.declared.TheConstants.{MOST_AMOUNT}
use Rattle.auction_model.specs.Book.{BookBid}
use Rattle.auction_rules.specs.Rounds.{OwnRound}
use Rattle.auction_rules.specs.State.{Round}
use Rattle.auction_rules.specs.Caps.{highest}
use Rattle.clock_stage.specs.Kept.{categories_in}
use Rattle.relative_cap.specs.declared.terms.RoundTerms.{RoundTerms}
use Rattle.relative_cap.specs.declared.terms.PackageTerms.{PackageTerms}
use Rattle.relative_cap.specs.declared.entries.TestedEntry.{TestedEntry}
use Rattle.relative_cap.specs.Asked.{IsEntry}
use Rattle.relative_cap.specs.Levels.{ArePeaks, AreHighsFrom}
use Rattle.relative_cap.specs.OwnRounds.{bid_value, rounds_of}
use Rattle.relative_cap.specs.RoundsOfPackage.{IsTerms, first_place}

abbrev pub tested_bid : TestedEntry → BookBid
tested_bid e = bid_value e.bid

abbrev pub tested_lots : TestedEntry → List ℕ
tested_lots e = e.bid.«package»

-- an entry that was tested, with the rounds' terms for its package
pub record IsTested (history : List Round) (points : List ℕ) (j : ℕ) (e : TestedEntry) : Type 0 where
  pub entry : IsEntry (categories_in history) e.bid
  pub terms : IsTerms history points j e.bid.«package» e.terms

-- this bid follows the bids before the place, which stay
abbrev pub IsPutAt : List BookBid → ℕ → BookBid → List BookBid → Type 0
IsPutAt old place b new = take (place + 1) new ≡ take place old ++ b ∷ []

-- the amount at the place is raised to this one, if there is the place
abbrev pub raised : ℕ → ℕ → List ℕ → List ℕ
raised place amount highs = if nat_lt place (length highs) then slice_set highs place (max (slice_index highs place) amount) else highs

-- the highest amount for a package, which is small
pub record IsHighest (rounds : List OwnRound) (bids : List BookBid) (lots : List ℕ) (high : ℕ) : Type 0 where
  pub is : high ≡ highest rounds bids lots
  pub most : high ≤ MOST_AMOUNT

-- at the first place where a package was held is the highest amount for it
pub record AreHighs (history : List Round) (j : ℕ) (bids : List BookBid) (highs : List ℕ) : Type 0 where
  pub room : length history ≤ length highs
  pub each : (lots : List ℕ) → first_place (rounds_of j history) lots < length history
      → IsHighest (rounds_of j history) bids lots (slice_index highs (first_place (rounds_of j history) lots))

-- what a tester keeps
pub record Tester : Type 0 where
  pub peaks : List ℕ
  pub clock : List ℕ
  pub entries : List TestedEntry

abbrev pub tester_of : List ℕ → List ℕ → List TestedEntry → Tester
tester_of peaks clock entries = record { peaks = peaks; clock = clock; entries = entries }

-- a tester of the lists of bidder j over these closed rounds and points: what it keeps is what they say
pub record IsTester (history : List Round) (points : List ℕ) (j : ℕ) (t : Tester) : Type 0 where
  pub peaks : ArePeaks history j t.peaks
  pub room : length history ≤ length t.clock
  pub clock : AreHighsFrom 0 history j t.clock
  pub entries : All (IsTested history points j) t.entries

abbrev pub round_cap : List ℕ → RoundTerms → ℕ
round_cap highs t = slice_index highs t.place + t.price - t.held

-- the cap that the rounds say over the highest amounts
abbrev pub terms_cap : Bool → List ℕ → PackageTerms → Option ℕ
terms_cap final highs t =
    if t.is_final then None else Some (if final then min (round_cap highs t.constraining) (round_cap highs t.last) else round_cap highs t.constraining)

-- the numbers are small
pub record FitsRound (highs : List ℕ) (t : RoundTerms) : Type 0 where
  pub inside : t.place < length highs
  pub high : slice_index highs t.place ≤ MOST_AMOUNT
  pub price : t.price ≤ MOST_AMOUNT
  pub held : t.held ≤ slice_index highs t.place

pub record FitsTerms (highs : List ℕ) (t : PackageTerms) : Type 0 where
  pub constraining : FitsRound highs t.constraining
  pub last : FitsRound highs t.last
