-- What the parts of the program stand for: the same lines over any packages.
use Rattle.std.specs.Prelude.{ℕ, ◌+◌, ◌-◌, ◌*◌, min, List, [], ◌∷◌, ◌++◌, flat_map, slice_index_or}
use Rattle.auction_rules.specs.declared.Event.{Event}
use Rattle.auction_rules.specs.declared.Event.TheVariants.{Bid, Close}
use Rattle.auction_rules.specs.Rounds.{listing}
use Rattle.big_auction.specs.Draws.{advanced, drawn_package}
use Rattle.big_auction.specs.MadeAward.{made_bidders}
use Rattle.big_auction.specs.MadeLog.{draft_count, last_of, lines_from, staying, widest}
use Rattle.big_auction.specs.declared.values.Lots.{Lots}
use Rattle.big_auction.specs.declared.values.Figures.{Figures}

-- the counts of a package
abbrev pub counts_of : Lots → List ℕ
counts_of p = p.a ∷ p.b ∷ p.c ∷ p.e ∷ []

-- a number for each category
abbrev pub figures_of : Figures → List ℕ
figures_of f = f.a ∷ f.b ∷ f.c ∷ f.e ∷ []

-- what the bidders have in each round, if each always has the same
abbrev pub held_from : List (List ℕ) → ℕ → ℕ → List ℕ
held_from packages r k = slice_index_or packages (k - 1) []

-- bidders 1 to n bid these packages, one each
abbrev pub bids_for : List (List ℕ) → ℕ → List Event
bids_for packages n = listing (λ k. Bid k (slice_index_or packages (k - 1) [])) n

-- bidder k's lines, where the draws of all bidders' lines begin at a state
abbrev pub lines_for : ℕ → List ℕ → List (List ℕ) → ℕ → List Event
lines_for state prices packages k =
    lines_from (advanced state (5 * draft_count * (k - 1) + min staying (k - 1))) prices k (slice_index_or packages (k - 1) []) (last_of k (slice_index_or packages (k - 1) []))

-- the lines of the clock, if these packages are bid
abbrev pub last_bids_for : List (List ℕ) → ℕ → List Event
last_bids_for packages n = listing (λ k. Bid k (last_of k (slice_index_or packages (k - 1) []))) n

abbrev pub full_round_for : List (List ℕ) → List Event
full_round_for packages = bids_for packages made_bidders ++ Close ∷ []

abbrev pub full_rounds_for : List (List ℕ) → ℕ → List Event
full_rounds_for packages n = flat_map (λ r. full_round_for packages) (listing (λ r. r) n)

-- the lines of bidders 1 to n in the sealed round
abbrev pub sealed_for : ℕ → List ℕ → List (List ℕ) → ℕ → List Event
sealed_for state prices packages n = flat_map (lines_for state prices packages) (listing (λ k. k) n)

-- the packages of bidders 1 to n, where their draws begin at a state
abbrev pub packages_from : ℕ → ℕ → List (List ℕ)
packages_from state n = listing (λ k. drawn_package (advanced state (4 * (k - 1))) widest) n
