-- The bidders that can be next after a set of bits.
use Rattle.std.specs.Prelude.{◌≡◌, ℕ, suc, ◌+◌, ◌-◌, ◌^◌, ◌≤◌, ◌<◌, Bool, false, IsTrue, List}
use Rattle.std.proofs.Common.{inl, inr, sym, ◌∙◌, arith, subst}
use Rattle.std.proofs.lemmas.Bool.{cases_Bool, cases_eq}
use Rattle.slot_places.specs.Board.{Board, joined, can_place}
use Rattle.slot_places.specs.SetTable.{holds}
use Rattle.slot_places.specs.Steps.{Next, CanFollow}
use Rattle.slot_places.proofs.PlaceLaws.{next-which, next-from}
use Rattle.slot_places.proofs.SameLaws.{IsSame, AsksBidders, place-same}
use Rattle.slot_places.proofs.SetBits.{holds-joined, joined-small}

-- none of the bidders up to k can be next
abbrev pub NoneTo : Board → List ℕ → ℕ → (ℕ → Bool) → ℕ → Type 0
NoneTo b c left s k = (h : ℕ) → h ≤ k → Next b c left s h → ⊥

-- there is no bidder 0
pub none-yet : (b : Board) (c : List ℕ) (left : ℕ) (s : ℕ → Bool) → NoneTo b c left s 0
none-yet b c left s h low next = let some = next.some in omega (arith, low, some)

-- one bidder more that can't
pub none-more : (b : Board) (c : List ℕ) (left : ℕ) (s : ℕ → Bool) (k : ℕ) → NoneTo b c left s k → (Next b c left s (k + 1) → ⊥) → NoneTo b c left s (k + 1)
none-more b c left s k none own h low next =
    elim (cases_eq h (k + 1)) [
      | inl same ↦ own (subst (λ i. Next b c left s i) same next)
      | inr other ↦ none h (omega (arith, low, other)) next
    ]

-- if no bidder can be next none is placed
pub none-placed : (b : Board) (c : List ℕ) (left : ℕ) (s : ℕ → Bool) (k : ℕ) → NoneTo b c left s k → b.bidders ≤ k → can_place b c (suc left) s ≡ false
none-placed b c left s k none all =
    elim (cases_Bool (can_place b c (suc left) s)) [
      | inl t ↦ let q = next-which b c left s t in absurd (none q.0 (let low = q.1.low in omega (arith, low, all)) q.1)
      | inr f ↦ f
    ]

-- a bidder that can follow, and the others after it
module _ (b : Board) (asks : AsksBidders b) (c : List ℕ) (left n j : ℕ) where
  joined-is : 0 < j → holds n j ≡ false → IsSame (joined j (holds n)) (holds (n + 2 ^ (j - 1)))
  joined-is some new i positive = holds-joined n j i some new positive

  -- a bidder that can follow, after which the others can be placed, can be next
  pub next-is : CanFollow b c (holds n) j → IsTrue (can_place b c left (holds (n + 2 ^ (j - 1)))) → Next b c left (holds n) j
  next-is f rest = record {
    some = f.some;
    low = f.low;
    new = f.new;
    may = f.may;
    rest = place-same b asks c left (joined j (holds n)) (holds (n + 2 ^ (j - 1))) (joined-is f.some f.new) ∙ rest;
  }

  -- after a bidder that can be next the others can be placed
  pub next-places : Next b c left (holds n) j → IsTrue (can_place b c left (holds (n + 2 ^ (j - 1))))
  next-places next = sym (place-same b asks c left (joined j (holds n)) (holds (n + 2 ^ (j - 1))) (joined-is next.some next.new)) ∙ next.rest

  -- if a bidder can be next, that many and one more can be placed
  pub placed-by : Next b c left (holds n) j → IsTrue (can_place b c (suc left) (holds n))
  placed-by next = next-from b c left (holds n) j next

  -- the same with the weight of the bidder
  module _ (w : ℕ) (is : w ≡ 2 ^ (j - 1)) where
    -- a bidder that can follow can be next, if the others can be placed after the set with its weight
    pub next-by : CanFollow b c (holds n) j → IsTrue (can_place b c left (holds (n + w))) → Next b c left (holds n) j
    next-by f rest = next-is f (subst (λ m. IsTrue (can_place b c left (holds (n + m)))) is rest)

    -- if a bidder can be next, the others can be placed after the set with its weight
    pub places-by : Next b c left (holds n) j → IsTrue (can_place b c left (holds (n + w)))
    places-by next = subst (λ m. IsTrue (can_place b c left (holds (n + m)))) (sym is) (next-places next)

    -- the set with the weight of a bidder that can follow is one of the sets
    pub small-by : CanFollow b c (holds n) j → n < 2 ^ b.bidders → n + w < 2 ^ b.bidders
    small-by f low = let small = joined-small b.bidders n j low f.some f.low f.new in omega (arith, small, is)
