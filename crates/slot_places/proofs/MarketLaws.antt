-- Slots are a lawful market.
use Rattle.std.specs.Prelude.{◌≡◌, ◌⊎◌, ℕ, zero, suc, ◌+◌, ◌-◌, ◌^◌, ◌≤◌, ◌<◌, Bool, false, nat_le, IsTrue, List, [], ◌∷◌, length, replicate, get_or, set, refl}
use Rattle.std.proofs.Common.{inl, inr, arith}
use Rattle.std.proofs.lemmas.Bool.{and_parts, and_from, cases_eq, cases_lt, le-leb}
use Rattle.std.proofs.lemmas.Int.{ints}
use Rattle.std.proofs.lemmas.List.{get_or-replicate, get_or_past, length-replicate, length-set, get_or-set_same, get_or-set_other}
use Rattle.auction_model.specs.Market.{number_of}
use Rattle.auction_model.specs.Menu.{Menu, is_known_after}
use Rattle.auction_model.specs.Lawful.{IsMarket}
use Rattle.auction_model.proofs.ChoiceLaws.{known-at, known-length}
use Rattle.auction_model.proofs.BookMarket.{none-known}
use Rattle.slot_places.specs.Slots.{SlotList}
use Rattle.slot_places.specs.Board.{Board, nobody, menu_of, is_known, can_place, is_placed, board_of, market_of_slots}
use Rattle.slot_places.proofs.SetLaws.{outside-nobody}
use Rattle.slot_places.proofs.PlaceLaws.{place-other, place-idle}

-- the choice of nobody
pub none-number : (n j : ℕ) → number_of (replicate n 0) j ≡ 0
none-number n j =
    elim (cases_lt (j - 1) n) [
      | inl inside ↦ get_or-replicate n (j - 1) 0 0 inside
      | inr past ↦ get_or_past (replicate n 0) (j - 1) 0 (omega (arith, past, length-replicate {A = ℕ} n 0))
    ]

-- a number is set to 0, and the others stay
pub set-none : (c : List ℕ) (k i : ℕ) → (number_of (set c k 0) i ≡ number_of c i) ⊎ (number_of (set c k 0) i ≡ 0)
set-none c k i =
    elim (cases_eq (i - 1) k) [
      | inl same ↦
          elim (cases_lt k (length c)) [
            | inl inside ↦ inr (rw same (get_or-set_same c k 0 0 inside))
            | inr past ↦ inr (rw same (get_or_past (set c k 0) k 0 (omega (arith, past, length-set c k 0))))
          ]
      | inr other ↦ inl (get_or-set_other c k (i - 1) 0 0 other)
    ]

-- a known choice stays known with another number of the bidder
pub known-set : (m : Menu) (k : ℕ) (c : List ℕ) (i n : ℕ) → n ≤ m.bids (suc (k + i)) → IsTrue (is_known_after m k c) → IsTrue (is_known_after m k (set c i n))
known-set m k [] i n low t = t
known-set m k (x ∷ c) zero n low t =
    let p = and_parts (nat_le x (m.bids (suc k))) (is_known_after m (suc k) c) t in
    let same : suc (k + 0) ≡ suc k = omega arith in
    and_from (nat_le n (m.bids (suc k))) (is_known_after m (suc k) c) (le-leb n (m.bids (suc k)) (rw same at low)) p.1
known-set m k (x ∷ c) (suc i) n low t =
    let p = and_parts (nat_le x (m.bids (suc k))) (is_known_after m (suc k) c) t in
    let same : suc (k + suc i) ≡ suc (suc k + i) = omega arith in
    and_from (nat_le x (m.bids (suc k))) (is_known_after m (suc k) (set c i n)) p.0 (known-set m (suc k) c i n (rw same at low) p.1)

-- a board on which a bidder can always be given 0
module _ (b : Board) (idle : (s : ℕ → Bool) (j : ℕ) → IsTrue (b.may s j 0)) where
  -- a known choice has for each bidder 0 or the number of one of its bids
  pub placed-number : (c : List ℕ) (j : ℕ) → IsTrue (is_known b c) → 0 < j → j ≤ b.bidders → number_of c j ≤ b.bids j
  placed-number c j known some inside =
      let all = known-length (menu_of b) 0 c known in
      let at : get_or c (j - 1) 0 ≤ b.bids (suc 0 + (j - 1)) = known-at (menu_of b) 0 c (j - 1) known (omega (arith, all, some, inside)) in
      let same : suc 0 + (j - 1) ≡ j = omega (arith, some) in
      rw same at at

  -- the choice in which nobody wins is placed
  pub placed-none : IsTrue (is_placed b (replicate b.bidders 0))
  placed-none =
      let c = replicate b.bidders 0 in
      and_from (is_known b c) (can_place b c b.bidders nobody) (none-known (menu_of b) 0 b.bidders (omega arith))
      (place-idle b c b.bidders nobody (let all = outside-nobody b.bidders in omega (arith, all)) (λ j t some new. rw (none-number b.bidders j) (idle t j)))

  -- a placed choice stays placed with one number set to 0
  pub placed-fewer : (c : List ℕ) (k : ℕ) → IsTrue (is_placed b c) → IsTrue (is_placed b (set c k 0))
  placed-fewer c k t =
      let p = and_parts (is_known b c) (can_place b c b.bidders nobody) t in
      and_from (is_known b (set c k 0)) (can_place b (set c k 0) b.bidders nobody) (known-set (menu_of b) 0 c k 0 (omega arith) p.0)
      (place-other b c (set c k 0) b.bidders nobody more p.1)
    where
      more : (j : ℕ) (s : ℕ → Bool) → 0 < j → nobody j ≡ false → IsTrue (b.may s j (number_of c j)) → IsTrue (b.may s j (number_of (set c k 0) j))
      more j s some new may = elim (set-none c k j) [ inl same ↦ rw same may | inr none ↦ rw none (idle s j) ]

-- in slots each bidder can be given 0 after any set
pub slots-idle : (slots : SlotList) (s : ℕ → Bool) (j : ℕ) → IsTrue ((board_of slots).may s j 0)
slots-idle slots s j = refl

-- slots are a lawful market if there are fewer than 2^16 bidders
pub market-of_slots : (slots : SlotList) → length slots.bidders < 2 ^ 16 → IsMarket (market_of_slots slots)
market-of_slots slots few =
    let b = board_of slots in
    let idle = slots-idle slots in
    record {
      few = few;
      lengths = λ c t. let e = known-length (menu_of b) 0 c (and_parts (is_known b c) (can_place b c b.bidders nobody) t).0 in omega (arith, e);
      numbers = λ c j t some inside. placed-number b idle c j (and_parts (is_known b c) (can_place b c b.bidders nobody) t).0 some inside;
      empty = placed-none b idle;
      fewer = λ c j t. placed-fewer b idle c (j - 1) t;
      none = λ j. refl;
      not_negative = λ c j t some inside. omega (arith, ints);
    }
