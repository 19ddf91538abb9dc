-- The steps that fill and visit a table: terms of private contracts.
use Rattle.std.specs.Prelude.{◌≡◌, ℕ, ◌≤◌, List, slice_index_or, ℤ, pos, ◌+ℤ◌, ◌<ℤ◌, IsTrue, if◌then◌else◌}
use Rattle.std.specs.Int.{int_max}
use Rattle.auction_model.specs.Package.{is_within, less}
use Rattle.auction_model.specs.Market.{is_number_before}
use Rattle.auction_model.specs.Menu.{Menu}
use Rattle.auction_model.specs.Place.{place_of, left_at}

-- an entry after one more bid: the sum with the bid if it fits and is greater
abbrev pub raised : List ℕ → List ℤ → List ℕ → ℤ → ℕ → ℤ → ℤ
raised supply below lots worth s old =
    if is_within lots (left_at supply s) then (int_max old (worth +ℤ slice_index_or below (place_of supply (less (left_at supply s) lots)) (pos 0))) else old

-- what bidder j counts with number i, and the rest with what is left
abbrev pub sum_with : Menu → (ℕ → ℕ → ℤ) → List ℕ → ℕ → ℕ → List ℤ → ℕ → ℤ
sum_with m counts supply j s below i = counts j i +ℤ slice_index_or below (place_of supply (less (left_at supply s) (m.lots j i))) (pos 0)

-- i is the first number, in the order of ties, that lets bidder j and the rest reach the entry
pub record IsFirstNumber (m : Menu) (counts : ℕ → ℕ → ℤ) (supply : List ℕ) (j s : ℕ) (here : ℤ) (below : List ℤ) (i : ℕ) : Type 0 where
  pub fits : IsTrue (is_within (m.lots j i) (left_at supply s))
  pub reaches : here ≡ sum_with m counts supply j s below i
  pub first : (h : ℕ) → IsTrue (is_number_before h i) → h ≤ m.bids j
      → IsTrue (is_within (m.lots j h) (left_at supply s)) → sum_with m counts supply j s below h <ℤ here
