-- Orders of the bidders.
use Rattle.std.specs.Prelude.{ℕ, Bool, true, false, ◌&&◌, ◌||◌, not, nat_le, nat_lt, ◌==◌, IsTrue, List, [], ◌∷◌, length}
use Rattle.auction_model.specs.Market.{number_of}
use Rattle.slot_places.specs.Board.{Board, nobody, joined, is_known, board_of}
use Rattle.slot_places.specs.Slots.{SlotList}

-- each entry is a bidder, none is in the set, and none comes twice
abbrev pub are_new : ℕ → (ℕ → Bool) → List ℕ → Bool
are_new bidders s [] = true
are_new bidders s (j ∷ order) = (nat_lt 0 j && nat_le j bidders) && (not (s j) && are_new bidders (joined j s) order)

-- the order lists each bidder once
abbrev pub is_order : ℕ → List ℕ → Bool
is_order bidders order = (length order == bidders) && are_new bidders nobody order

-- after the bidders of a set, the order places each as the choice says
abbrev pub gives : Board → List ℕ → (ℕ → Bool) → List ℕ → Bool
gives b c s [] = true
gives b c s (j ∷ order) = b.may s j (number_of c j) && gives b c (joined j s) order

-- the order lists each bidder once and places each bidder with a number other than 0 at the start of this
-- bid
abbrev pub allows : SlotList → List ℕ → List ℕ → Bool
allows slots order c = is_order (length slots.bidders) order && (is_known (board_of slots) c && gives (board_of slots) c nobody order)

-- entry by entry, the smaller bidder number comes first
abbrev pub is_order_before : List ℕ → List ℕ → Bool
is_order_before [] q = false
is_order_before (i ∷ p) [] = false
is_order_before (i ∷ p) (j ∷ q) = nat_lt i j || ((i == j) && is_order_before p q)

-- the placement of a choice: the first order that allows it
pub record IsPlacement (slots : SlotList) (c : List ℕ) (order : List ℕ) : Type 0 where
  pub allowed : IsTrue (allows slots order c)
  pub first : (other : List ℕ) → IsTrue (allows slots other c) → IsTrue (is_order_before other order) → ⊥
