-- What a slot in a list is good for.
use Rattle.std.specs.Prelude.{◌≡◌, ℕ, ◌<◌, ◌≤◌, true, false, List, length, slice_index_or, slice_set}
use Rattle.std.specs.List.{insert, remove}
use Rattle.auction_model.specs.Book.{BookBid}
use Rattle.auction_model.specs.Entries.{with_entry, without_entry}
use Rattle.auction_rules.specs.Replies.{has_entry}
use Rattle.bid_desk.specs.declared.slots.Position.{Position}
use Rattle.bid_desk.specs.declared.slots.Position.TheVariants.{Taken, Free}

abbrev pub entry_of : List ℕ → ℕ → BookBid
entry_of lots amount = record { lots = lots; amount = amount }

-- the entry for the package is at this place
pub record IsTakenAt (list : List BookBid) (lots : List ℕ) (place : ℕ) : Type 0 where
  pub inside : place < length list
  pub entry : has_entry lots list ≡ true
  pub own : (d : BookBid) → (slice_index_or list place d).lots ≡ lots
  pub put : (amount : ℕ) → with_entry lots amount list ≡ slice_set list place (entry_of lots amount)
  pub removed : without_entry lots list ≡ remove list place

-- there is no entry for the package, and before this place one can be put in
pub record IsFreeAt (list : List BookBid) (lots : List ℕ) (place : ℕ) : Type 0 where
  pub last : place ≤ length list
  pub none : has_entry lots list ≡ false
  pub put : (amount : ℕ) → with_entry lots amount list ≡ insert list place (entry_of lots amount)
  pub same : without_entry lots list ≡ list

abbrev pub IsSlot : List BookBid → List ℕ → Position → Type 0
IsSlot list lots (Taken place) = IsTakenAt list lots place
IsSlot list lots (Free place) = IsFreeAt list lots place
