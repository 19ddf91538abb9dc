-- Bidders can be placed exactly if some order gives each its number.
use Rattle.std.specs.Prelude.{◌≡◌, ℕ, zero, suc, ◌≤◌, ◌<◌, Bool, false, ◌&&◌, not, nat_lt, nat_le, ◌==◌, IsTrue, List, [], ◌∷◌, length, refl}
use Rattle.std.proofs.Common.{arith}
use Rattle.std.proofs.lemmas.Bool.{and_parts, and_from, not_from_false, not-true, lt-ltb, le-leb, ltb-true, leb-true, eqb-true, eq-eqb}
use Rattle.auction_model.specs.Market.{number_of}
use Rattle.slot_places.specs.Slots.{SlotList}
use Rattle.slot_places.specs.Board.{Board, nobody, joined, is_known, can_place, is_placed, board_of}
use Rattle.slot_places.specs.Orders.{are_new, is_order, gives, allows}
use Rattle.slot_places.proofs.PlaceLaws.{next-which, next-from}

-- an order of that many bidders outside a set that gives each its number
pub record Order (b : Board) (c : List ℕ) (left : ℕ) (s : ℕ → Bool) (order : List ℕ) : Type 0 where
  pub count : length order ≡ left
  pub new : IsTrue (are_new b.bidders s order)
  pub gives : IsTrue (gives b c s order)

-- the first of new entries is a bidder outside the set, and the others are new after it
pub new-parts : (n : ℕ) (s : ℕ → Bool) (j : ℕ) (order : List ℕ) → IsTrue (are_new n s (j ∷ order)) → (0 < j) × (j ≤ n) × (s j ≡ false)
    × IsTrue (are_new n (joined j s) order)
new-parts n s j order t =
    let p = and_parts (nat_lt 0 j && nat_le j n) (not (s j) && are_new n (joined j s) order) t in
    let q = and_parts (nat_lt 0 j) (nat_le j n) p.0 in
    let r = and_parts (not (s j)) (are_new n (joined j s) order) p.1 in
    (ltb-true 0 j q.0, leb-true j n q.1, not-true (s j) r.0, r.1)

-- a bidder outside the set, before entries that are new after it, makes new entries
pub new-from : (n : ℕ) (s : ℕ → Bool) (j : ℕ) (order : List ℕ) → 0 < j → j ≤ n → s j ≡ false → IsTrue (are_new n (joined j s) order)
    → IsTrue (are_new n s (j ∷ order))
new-from n s j order some low new rest =
    and_from (nat_lt 0 j && nat_le j n) (not (s j) && are_new n (joined j s) order)
    (and_from (nat_lt 0 j) (nat_le j n) (lt-ltb 0 j some) (le-leb j n low))
    (and_from (not (s j)) (are_new n (joined j s) order) (not_from_false (s j) new) rest)

-- if that many bidders can be placed, an order gives each its number
pub order-exists : (b : Board) (c : List ℕ) (left : ℕ) (s : ℕ → Bool) → IsTrue (can_place b c left s) → (order : List ℕ) × Order b c left s order
order-exists b c zero s t = ([], record { count = refl; new = refl; gives = refl })
order-exists b c (suc left) s t =
    let q = next-which b c left s t in
    let n = q.1 in
    let rest = order-exists b c left (joined q.0 s) n.rest in (
      q.0 ∷ rest.0,
      record {
        count = omega (arith, rest.1.count);
        new = new-from b.bidders s q.0 rest.0 n.some n.low n.new rest.1.new;
        gives = and_from (b.may s q.0 (number_of c q.0)) (gives b c (joined q.0 s) rest.0) n.may rest.1.gives;
      },
    )

-- if an order of that many bidders gives each its number, they can be placed
pub order-places : (b : Board) (c : List ℕ) (left : ℕ) (s : ℕ → Bool) (order : List ℕ) → Order b c left s order → IsTrue (can_place b c left s)
order-places b c zero s order o = refl
order-places b c (suc left) s [] o = absurd (omega (arith, o.count))
order-places b c (suc left) s (j ∷ order) o =
    let p = new-parts b.bidders s j order o.new in
    let g = and_parts (b.may s j (number_of c j)) (gives b c (joined j s) order) o.gives in
    next-from b c left s j (record {
      some = p.0;
      low = p.1;
      new = p.2;
      may = g.0;
      rest = order-places b c left (joined j s) order (record { count = omega (arith, o.count); new = p.3; gives = g.1 });
    })

-- of slots
pub order-of_allowed : (slots : SlotList) (c : List ℕ) → IsTrue (is_placed (board_of slots) c) → (order : List ℕ) × IsTrue (allows slots order c)
order-of_allowed slots c t =
    let b = board_of slots in
    let n = length slots.bidders in
    let p = and_parts (is_known b c) (can_place b c n nobody) t in
    let o = order-exists b c n nobody p.1 in (
      o.0,
      and_from (is_order n o.0) (is_known b c && gives b c nobody o.0)
          (and_from (length o.0 == n) (are_new n nobody o.0) (eq-eqb (length o.0) n o.1.count) o.1.new)
          (and_from (is_known b c) (gives b c nobody o.0) p.0 o.1.gives),
    )

-- a choice that an order allows is placed
pub allowed-by_order : (slots : SlotList) (c order : List ℕ) → IsTrue (allows slots order c) → IsTrue (is_placed (board_of slots) c)
allowed-by_order slots c order t =
    let b = board_of slots in
    let n = length slots.bidders in
    let p = and_parts (is_order n order) (is_known b c && gives b c nobody order) t in
    let q = and_parts (length order == n) (are_new n nobody order) p.0 in
    let r = and_parts (is_known b c) (gives b c nobody order) p.1 in
    and_from (is_known b c) (can_place b c n nobody) r.0
    (order-places b c n nobody order (record { count = eqb-true (length order) n q.0; new = q.1; gives = r.1 }))
