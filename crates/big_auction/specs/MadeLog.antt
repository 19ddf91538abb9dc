-- The log that is made from a number.
use Rattle.std.specs.Prelude.{ℕ, suc, ◌+◌, ◌-◌, ◌*◌, ◌/◌, min, max, ◌||◌, nat_le, List, [], ◌∷◌, ◌++◌, flat_map, slice_index, if◌then◌else◌}
use Rattle.auction_model.specs.Package.{cost_of}
use Rattle.auction_rules.specs.declared.Event.{Event}
use Rattle.auction_rules.specs.declared.Event.TheVariants.{Bid, Close, Draft, Submit}
use Rattle.auction_model.specs.PackageTests.{is_same}
use Rattle.auction_rules.specs.Terms.{no_lots}
use Rattle.auction_rules.specs.Rounds.{listing, prices_after}
use Rattle.big_auction.specs.Draws.{first_state, advanced, drawn, drawn_package}
use Rattle.big_auction.specs.MadeAward.{made_bidders, made_terms}

-- ---- packages

-- the most lots of a package of the first rounds
abbrev pub widest : List ℕ
widest = 2 ∷ 1 ∷ 7 ∷ 4 ∷ []

-- the package of bidder k in the rounds 1 to 9; each has four draws, the bidders in order
unfoldable pub package_of : ℕ → ℕ → List ℕ
package_of number k = drawn_package (advanced (first_state number) (4 * (k - 1))) widest

-- of a package, what a bidder that stays asks for in round 10
abbrev pub reduced : List ℕ → List ℕ
reduced lots = 1 ∷ 0 ∷ min 3 (slice_index lots 2) ∷ min 2 (slice_index lots 3) ∷ []

-- how many bidders stay
abbrev pub staying : ℕ
staying = 4

-- what bidder k with this package of its own asks for in round 10
abbrev pub last_of : ℕ → List ℕ → List ℕ
last_of k own = if nat_le k staying then reduced own else no_lots made_terms

-- the package of bidder k in round 10
abbrev pub final_package_of : ℕ → ℕ → List ℕ
final_package_of number k = last_of k (package_of number k)

-- the rounds with bids of all bidders
abbrev pub full_rounds : ℕ
full_rounds = 9

-- the package of bidder k in round r
abbrev pub held_by : ℕ → ℕ → ℕ → List ℕ
held_by number r k = if nat_le r full_rounds then package_of number k else final_package_of number k

-- the prices of round 10
unfoldable pub final_prices : ℕ → List ℕ
final_prices number = prices_after made_terms (held_by number) full_rounds

-- ---- the lines of the clock

-- the packages that bidders 1 to n bid in round r
abbrev pub bids_of : ℕ → ℕ → ℕ → List Event
bids_of number r n = listing (λ k. Bid k (held_by number r k)) n

-- the lines of one of the first rounds
abbrev pub round_lines : ℕ → ℕ → List Event
round_lines number r = bids_of number r made_bidders ++ Close ∷ []

-- the lines of the rounds 1 to 10
abbrev pub clock_lines : ℕ → List Event
clock_lines number = flat_map (round_lines number) (listing (λ r. r) full_rounds) ++ (bids_of number (suc full_rounds) staying ++ Close ∷ [])

-- ---- the lines of the sealed round

-- The amount of a draft: what the package costs at the prices of round 10, if it is one of the bidder's own two. Else that many
-- thousandths of that, but no less than at the reserves.
abbrev pub amount_of : List ℕ → List ℕ → List ℕ → List ℕ → ℕ → ℕ
amount_of prices own final lots permille =
    if is_same lots own || is_same lots final then cost_of prices lots
    else max (cost_of made_terms.reserves lots) (cost_of prices lots * permille / 1000)

-- bidder k's draft of the five draws from a state on
abbrev pub drawn_draft : ℕ → List ℕ → ℕ → List ℕ → List ℕ → Event
drawn_draft state prices k own final =
    Draft k (drawn_package state own) (amount_of prices own final (drawn_package state own) (500 + drawn state 5 501))

-- that many of them, one after another
unfoldable pub drawn_drafts : ℕ → List ℕ → ℕ → List ℕ → List ℕ → ℕ → List Event
drawn_drafts state prices k own final n = listing (λ i. drawn_draft (advanced state (5 * (i - 1))) prices k own final) n

-- how many such drafts a bidder has
abbrev pub draft_count : ℕ
draft_count = 100

-- the draft more of a bidder that stays: its last package, with up to 999 more than it costs
abbrev pub last_draft : ℕ → List ℕ → ℕ → List ℕ → List Event
last_draft state prices k final = if nat_le k staying then Draft k final (cost_of prices final + drawn state 1 1000) ∷ [] else []

-- bidder k's lines by the draws from a state on
abbrev pub lines_from : ℕ → List ℕ → ℕ → List ℕ → List ℕ → List Event
lines_from state prices k own final =
    drawn_drafts state prices k own final draft_count
    ++ (last_draft (advanced state (5 * draft_count)) prices k final ++ Submit k ∷ [])

-- how many draws come before bidder k's lines: four for each package, 500 for each bidder before, and one more for each that stays
abbrev pub draws_before : ℕ → ℕ
draws_before k = 4 * made_bidders + 5 * draft_count * (k - 1) + min staying (k - 1)

-- bidder k's lines
unfoldable pub lines_of : ℕ → ℕ → List Event
lines_of number k =
    lines_from (advanced (first_state number) (draws_before k)) (final_prices number) k (package_of number k) (final_package_of number k)

-- ---- the whole

-- the lines of the log, the first one first
unfoldable pub made_log : ℕ → List Event
made_log number = clock_lines number ++ (flat_map (lines_of number) (listing (λ k. k) made_bidders) ++ Close ∷ [])
