-- When bidders can be placed: by a next one, with other numbers, and where nobody outside has a bid.
use Rattle.std.specs.Prelude.{◌≡◌, ℕ, zero, suc, ◌≤◌, ◌<◌, Bool, false, ◌&&◌, not, IsTrue, List, refl}
use Rattle.std.proofs.Common.{arith}
use Rattle.std.proofs.lemmas.Bool.{and_parts, and_from, not_from_false, not-true}
use Rattle.auction_model.specs.Market.{number_of}
use Rattle.slot_places.specs.Steps.{Next}
use Rattle.slot_places.specs.Board.{Board, joined, outside, can_place}
use Rattle.slot_places.proofs.SetLaws.{joined-new, some-at, some-which, outside-joined, outside-some}

-- if one bidder more can be placed, one can be next
pub next-which : (b : Board) (c : List ℕ) (left : ℕ) (s : ℕ → Bool) → IsTrue (can_place b c (suc left) s) → (j : ℕ) × Next b c left s j
next-which b c left s t =
    let q = some-which (λ j. not (s j) && (b.may s j (number_of c j) && can_place b c left (joined j s))) b.bidders t in
    let j = q.0 in
    let p = and_parts (not (s j)) (b.may s j (number_of c j) && can_place b c left (joined j s)) q.3 in
    let r = and_parts (b.may s j (number_of c j)) (can_place b c left (joined j s)) p.1 in
    (j, record { some = q.1; low = q.2; new = not-true (s j) p.0; may = r.0; rest = r.1 })

-- if a bidder can be next, one more can be placed
pub next-from : (b : Board) (c : List ℕ) (left : ℕ) (s : ℕ → Bool) (j : ℕ) → Next b c left s j → IsTrue (can_place b c (suc left) s)
next-from b c left s j n =
    some-at (λ i. not (s i) && (b.may s i (number_of c i) && can_place b c left (joined i s))) b.bidders j n.some n.low
    (and_from (not (s j)) (b.may s j (number_of c j) && can_place b c left (joined j s)) (not_from_false (s j) n.new)
    (and_from (b.may s j (number_of c j)) (can_place b c left (joined j s)) n.may n.rest))

-- other numbers that those outside can be given wherever they can be given these
pub place-other : (b : Board) (c d : List ℕ) (left : ℕ) (s : ℕ → Bool) → ((j : ℕ) (t : ℕ → Bool) → 0 < j → s j ≡ false → IsTrue (b.may t j (number_of c j))
    → IsTrue (b.may t j (number_of d j))) → IsTrue (can_place b c left s) → IsTrue (can_place b d left s)
place-other b c d zero s more t = refl
place-other b c d (suc left) s more t =
    let q = next-which b c left s t in
    let n = q.1 in
    next-from b d left s q.0 (record {
      some = n.some;
      low = n.low;
      new = n.new;
      may = more q.0 s n.some n.new n.may;
      rest = place-other b c d left (joined q.0 s) (λ i u some new. more i u some (joined-new q.0 s i new)) n.rest;
    })

-- those outside without a bid can be placed in any order
pub place-idle : (b : Board) (c : List ℕ) (left : ℕ) (s : ℕ → Bool) → left ≤ outside s b.bidders
    → ((j : ℕ) (t : ℕ → Bool) → 0 < j → s j ≡ false → IsTrue (b.may t j (number_of c j))) → IsTrue (can_place b c left s)
place-idle b c zero s few all = refl
place-idle b c (suc left) s few all =
    let q = outside-some s b.bidders (omega (arith, few)) in
    let fewer = outside-joined q.0 s b.bidders q.1 q.2 q.3 in
    next-from b c left s q.0 (record {
      some = q.1;
      low = q.2;
      new = q.3;
      may = all q.0 s q.1 q.3;
      rest = place-idle b c left (joined q.0 s) (omega (arith, few, fewer)) (λ i u some new. all i u some (joined-new q.0 s i new));
    })
