-- What an award and the lines of a log keep, and what follows for each bid of the book.
use Rattle.std.specs.Prelude.{◌≡◌, ℕ, ◌≤◌, IsTrue, false, List, [], ◌∷◌, length, map, sum}
use Rattle.std.specs.List.{AllByRecursion}
use Rattle.limits.specs.declared.TheConstants.{MOST_AMOUNT, MOST_DRAFTS, MOST_LOTS, MOST_PRICE}
use Rattle.auction_model.specs.Book.{BookBid}
use Rattle.auction_model.specs.Package.{cost_of, is_within}
use Rattle.auction_rules.specs.declared.Event.{Event}
use Rattle.auction_rules.specs.declared.Event.TheVariants.{Bid, Draft, Drop, Submit, Close}
use Rattle.auction_model.specs.PackageTests.{InOrder, is_empty}
use Rattle.auction_rules.specs.Terms.{Terms, entrant}
use Rattle.auction_rules.specs.Rounds.{OwnRound}
use Rattle.auction_rules.specs.BookOfLog.{bid_lots}

-- no price is above the greatest price
abbrev pub AreBelowTop : List ℕ → Type 0
AreBelowTop prices = AllByRecursion (λ p. p ≤ MOST_PRICE) prices

-- the limits of an award that bound the amounts
pub record AreLimited (terms : Terms) : Type 0 where
  pub reserves : AreBelowTop terms.reserves
  pub lots : sum terms.supply ≤ MOST_LOTS

-- the package of the line has the award's number of categories
abbrev pub HasCategories : Terms → Event → Type 0
HasCategories terms (Bid k lots) = length lots ≡ length terms.supply
HasCategories terms (Draft k lots amount) = length lots ≡ length terms.supply
HasCategories terms (Drop k lots) = length lots ≡ length terms.supply
HasCategories terms (Submit k) = Unit {0}
HasCategories terms Close = Unit {0}

-- a bid that may be in a book of the award
pub record IsLawfulBid (terms : Terms) (b : BookBid) : Type 0 where
  pub categories : length b.lots ≡ length terms.supply
  pub within : IsTrue (is_within b.lots terms.supply)
  pub reserve : cost_of terms.reserves b.lots ≤ b.amount
  pub top : b.amount ≤ MOST_AMOUNT

-- an eligibility that never rises, from this one on, round by round, to the last one
abbrev pub NeverRises : ℕ → List OwnRound → ℕ → Type 0
NeverRises most [] last = last ≤ most
NeverRises most (r ∷ rounds) last = (r.eligibility ≤ most) × NeverRises r.eligibility rounds last

-- an entry that bidder j may draft
pub record IsDraft (terms : Terms) (j : ℕ) (b : BookBid) : Type 0 where
  pub lawful : IsLawfulBid terms b
  pub some : is_empty b.lots ≡ false
  pub few : sum b.lots ≤ sum terms.supply
  pub points : cost_of terms.points b.lots ≤ (entrant terms j).eligibility

-- a list of such entries: as many as a draft list may have, in the order of their packages, each package once
pub record AreDrafts (terms : Terms) (j : ℕ) (list : List BookBid) : Type 0 where
  pub few : length list ≤ MOST_DRAFTS
  pub order : InOrder (map bid_lots list)
  pub each : AllByRecursion (IsDraft terms j) list
