-- What a desk has for each bidder of the award.
use Rattle.std.specs.Prelude.{◌≡◌, ℕ, ◌-◌, ◌≤◌, ◌<◌, false, List, [], ◌∷◌, Option, None, length, nat_lt, slice_index_or}
use Rattle.std.specs.List.{AllByRecursion}
use Rattle.limits.specs.declared.TheConstants.{MOST_AMOUNT}
use Rattle.auction_model.specs.Book.{BookBid}
use Rattle.auction_model.specs.Package.{cost_of}
use Rattle.auction_rules.specs.Caps.{list_fault}
use Rattle.auction_rules.specs.Lawful.{AreDrafts}
use Rattle.auction_rules.specs.Replies.{below_clock, below_reserve, drafts_full, first_reply, is_clock, when}
use Rattle.auction_rules.specs.Rounds.{OwnRound}
use Rattle.auction_model.specs.PackageTests.{is_empty}
use Rattle.auction_rules.specs.declared.Reply.{Reply}
use Rattle.auction_rules.specs.declared.Reply.TheVariants as reply
use Rattle.auction_rules.specs.State.{DeskState, drafts_of}
use Rattle.auction_rules.specs.Terms.{Terms, entrant, final_cap}
use Rattle.relative_cap.specs.OwnRounds.{eligibility_in, rounds_of}
use Rattle.bid_desk.specs.Lists.{IsKept}

-- the list that bidder j submitted last
abbrev pub submitted_of : DeskState → ℕ → List BookBid
submitted_of desk j = slice_index_or desk.submitted (j - 1) []

-- the first entry of a list of bidder j that is above its cap over the list: its number, and the cap
abbrev pub fault_in : DeskState → ℕ → List BookBid → Option (ℕ × ℕ)
fault_in desk j list = list_fault (final_cap desk.terms) desk.terms.points (rounds_of j desk.rounds) list

-- Bidder j is one of the award. It has a draft list and a submitted list, both of entries that it may draft; the submitted list is
-- valid. Once the clock has stopped a round is closed, and in round 1 it was eligible for what the award says.
pub record IsKnown (terms : Terms) (desk : DeskState) (j : ℕ) : Type 0 where
  pub first : 1 ≤ j
  pub last : j ≤ length terms.bidders
  pub drafts_there : j - 1 < length desk.drafts
  pub submitted_there : j - 1 < length desk.submitted
  pub drafts : AreDrafts terms j (drafts_of desk j)
  pub submitted : AreDrafts terms j (submitted_of desk j)
  pub kept : IsKept (length terms.supply) (drafts_of desk j)
  pub kept_last : IsKept (length terms.supply) (submitted_of desk j)
  pub points : AllByRecursion (λ b. cost_of terms.points b.lots ≤ (entrant terms j).eligibility) (drafts_of desk j)
  pub valid : list_fault (final_cap terms) terms.points (rounds_of j desk.rounds) (submitted_of desk j) ≡ None
  pub some : is_clock desk.stage ≡ false → 1 ≤ length desk.rounds
  pub eligible : is_clock desk.stage ≡ false → eligibility_in desk.rounds j 1 ≡ (entrant terms j).eligibility

-- the reply to a draft of a package within its bidder's eligibility
abbrev pub amount_reply : Terms → List OwnRound → List BookBid → List ℕ → ℕ → Reply
amount_reply terms rounds drafts lots amount = first_reply (
    when (is_empty lots) reply.Empty
    ∷ below_reserve terms lots amount
    ∷ below_clock rounds lots amount
    ∷ drafts_full drafts lots
    ∷ when (nat_lt MOST_AMOUNT amount) (reply.AmountTop MOST_AMOUNT)
    ∷ [])
