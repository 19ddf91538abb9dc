-- The first order that gives each bidder its number, entry by entry.
use Rattle.std.specs.Prelude.{◌≡◌, ℕ, suc, ◌+◌, ◌-◌, ◌^◌, ◌<◌, Bool, true, false, ◌&&◌, nat_lt, ◌==◌, IsTrue, List, [], ◌∷◌, ◌++◌, length, refl}
use Rattle.std.proofs.Common.{inl, inr, sym, ◌∙◌, arith, subst}
use Rattle.std.proofs.lemmas.Bool.{false≢true, and_parts, and_from, or_cases, cases_Bool, ltb-true, eqb-true, eq-eqb}
use Rattle.auction_model.specs.Market.{number_of}
use Rattle.slot_places.specs.Slots.{SlotList}
use Rattle.slot_places.specs.Board.{Board, nobody, joined, is_known, can_place, board_of}
use Rattle.slot_places.specs.Orders.{are_new, is_order, gives, allows, is_order_before}
use Rattle.slot_places.specs.SetTable.{holds}
use Rattle.slot_places.specs.Steps.{Next, CanFollow, IsFirstNext}
use Rattle.slot_places.proofs.OrderLaws.{Order, new-parts, new-from, order-places}
use Rattle.slot_places.proofs.SameLaws.{IsSame, AsksBidders, joined-same, slots-ask}
use Rattle.slot_places.proofs.SetBits.{holds-joined, holds-nobody}

-- an order of bidders outside a set that gives each its number
abbrev pub Passes : Board → List ℕ → (ℕ → Bool) → List ℕ → Type 0
Passes b c s order = IsTrue (are_new b.bidders s order) × IsTrue (gives b c s order)

-- in an order that passes, the first bidder can follow and the others pass after it
pub passes-says : (b : Board) (c : List ℕ) (s : ℕ → Bool) (j : ℕ) (order : List ℕ) → Passes b c s (j ∷ order)
    → CanFollow b c s j × Passes b c (joined j s) order
passes-says b c s j order p =
    let n = new-parts b.bidders s j order p.0 in
    let g = and_parts (b.may s j (number_of c j)) (gives b c (joined j s) order) p.1 in
    (record { some = n.0; low = n.1; new = n.2; may = g.0 }, (n.3, g.1))

-- a bidder that can follow, before an order that passes after it, makes an order that passes
pub passes-from : (b : Board) (c : List ℕ) (s : ℕ → Bool) (j : ℕ) (order : List ℕ) → CanFollow b c s j → Passes b c (joined j s) order
    → Passes b c s (j ∷ order)
passes-from b c s j order f p = (
  new-from b.bidders s j order f.some f.low f.new p.0,
  and_from (b.may s j (number_of c j))
      (gives b c (joined j s) order) f.may p.1,
)

-- the same for sets that hold the same bidders
pub passes-same : (b : Board) → AsksBidders b → (c : List ℕ) (s t : ℕ → Bool) (order : List ℕ) → IsSame s t → Passes b c s order → Passes b c t order
passes-same b asks c s t [] same p = (refl, refl)
passes-same b asks c s t (j ∷ order) same p =
    let q = passes-says b c s j order p in
    let f = q.0 in
    passes-from b c t j order
    (record { some = f.some; low = f.low; new = sym (same j f.some) ∙ f.new; may = sym (asks s t j (number_of c j) same) ∙ f.may })
    (passes-same b asks c (joined j s) (joined j t) order (joined-same j s t same) q.1)

-- by sets of bits
module _ (slots : SlotList) (c : List ℕ) where
  abbrev board : Board
  board = board_of slots

  asks : AsksBidders board
  asks = slots-ask slots 0

  -- what passes after the set of no bits passes after nobody
  pub passes-start : (order : List ℕ) → Passes board c (holds 0) order → Passes board c nobody order
  passes-start order = passes-same board asks c (holds 0) nobody order (λ i some. holds-nobody i)

  -- what passes after nobody passes after the set of no bits
  pub passes-begins : (order : List ℕ) → Passes board c nobody order → Passes board c (holds 0) order
  passes-begins order = passes-same board asks c nobody (holds 0) order (λ i some. sym (holds-nobody i))

  -- what follows the first bidder passes after the set of bits with that bidder
  pub passes-on : (n j : ℕ) (order : List ℕ) → Passes board c (holds n) (j ∷ order) → Passes board c (holds (n + 2 ^ (j - 1))) order
  passes-on n j order p =
      let q = passes-says board c (holds n) j order p in
      passes-same board asks c (joined j (holds n)) (holds (n + 2 ^ (j - 1))) order (λ i some. holds-joined n j i q.0.some q.0.new some) q.1

  -- and the other way, with a bidder that can follow before it
  pub passes-back : (n j : ℕ) (order : List ℕ) → CanFollow board c (holds n) j → Passes board c (holds (n + 2 ^ (j - 1))) order
      → Passes board c (holds n) (j ∷ order)
  passes-back n j order f p =
      passes-from board c (holds n) j order f
      (passes-same board asks c (holds (n + 2 ^ (j - 1))) (joined j (holds n)) order (λ i some. sym (holds-joined n j i f.some f.new some)) p)

  -- an order of all bidders that passes after nobody allows the known choice
  pub allowed-by : (order : List ℕ) → length order ≡ length slots.bidders → IsTrue (is_known board c) → Passes board c nobody order
      → allows slots order c ≡ true
  allowed-by order count known p =
      and_from (is_order (length slots.bidders) order) (is_known board c && gives board c nobody order)
      (and_from (length order == length slots.bidders) (are_new (length slots.bidders) nobody order) (eq-eqb (length order) (length slots.bidders) count) p.0)
      (and_from (is_known board c) (gives board c nobody order) known p.1)

  -- what an order that allows the choice says
  pub record Allowed (order : List ℕ) : Type 0 where
    pub count : length order ≡ length slots.bidders
    pub known : IsTrue (is_known board c)
    pub passes : Passes board c nobody order

  -- an order that allows the choice lists all bidders and passes, and the choice is known
  pub allowed-says : (order : List ℕ) → IsTrue (allows slots order c) → Allowed order
  allowed-says order t =
      let p = and_parts (is_order (length slots.bidders) order) (is_known board c && gives board c nobody order) t in
      let q = and_parts (length order == length slots.bidders) (are_new (length slots.bidders) nobody order) p.0 in
      let r = and_parts (is_known board c) (gives board c nobody order) p.1 in
      record { count = eqb-true (length order) (length slots.bidders) q.0; known = r.0; passes = (q.1, r.1) }

  -- an order for which this is not so doesn't allow the choice
  pub refused-by : (order : List ℕ) → (Allowed order → ⊥) → false ≡ allows slots order c
  refused-by order none =
      elim (cases_Bool (allows slots order c)) [
        | inl t ↦ absurd (none (allowed-says order t))
        | inr f ↦ sym f
      ]

-- of that many bidders outside a set the first order that gives each its number
pub record FirstOrder (b : Board) (c : List ℕ) (left : ℕ) (s : ℕ → Bool) (order : List ℕ) : Type 0 where
  pub is : Order b c left s order
  pub first : (other : List ℕ) → Order b c left s other → IsTrue (is_order_before other order) → ⊥

-- after the smallest bidder that can be next the first order of the others
pub first-with : (b : Board) (c : List ℕ) (left : ℕ) (s : ℕ → Bool) (j : ℕ) (order : List ℕ) → IsFirstNext b c left s j
    → FirstOrder b c left (joined j s) order → FirstOrder b c (suc left) s (j ∷ order)
first-with b c left s j order is rest = record { is = whole; first = none }
  where
    n : Next b c left s j
    n = is.next

    whole : Order b c (suc left) s (j ∷ order)
    whole = record {
      count = (let e = rest.is.count in omega (arith, e));
      new = new-from b.bidders s j order n.some n.low n.new rest.is.new;
      gives = and_from (b.may s j (number_of c j)) (gives b c (joined j s) order) n.may rest.is.gives;
    }

    none : (other : List ℕ) → Order b c (suc left) s other → IsTrue (is_order_before other (j ∷ order)) → ⊥
    none [] o t = false≢true t
    none (i ∷ other) o t =
        let q = passes-says b c s i other (o.new, o.gives) in
        let f = q.0 in
        let tail : Order b c left (joined i s) other = record { count = (let e = o.count in omega (arith, e)); new = q.1.0; gives = q.1.1 } in
        elim (or_cases (nat_lt i j) ((i == j) && is_order_before other order) t) [
          | inl lower ↦
              is.first i (ltb-true i j lower) (record {
                some = f.some;
                low = f.low;
                new = f.new;
                may = f.may;
                rest =
                    order-places b c left (joined i s) other tail;
              })
          | inr later ↦
              let p = and_parts (i == j) (is_order_before other order) later in
              rest.first other (subst (λ h. Order b c left (joined h s) other) (eqb-true i j p.0) tail) p.1
        ]

-- the same for sets that hold the same bidders
pub first-same : (b : Board) → AsksBidders b → (c : List ℕ) (left : ℕ) (s t : ℕ → Bool) (order : List ℕ) → IsSame s t → FirstOrder b c left s order
    → FirstOrder b c left t order
first-same b asks c left s t order same is = record {
  is = moved s t order same is.is;
  first = λ other o. is.first other (moved t s other (λ i some. sym (same i some)) o);
}
  where
    moved : (u v : ℕ → Bool) (q : List ℕ) → IsSame u v → Order b c left u q → Order b c left v q
    moved u v q agree o = let p = passes-same b asks c u v q agree (o.new, o.gives) in record { count = o.count; new = p.0; gives = p.1 }

-- That many are placed after a set of bits: whatever goes on from here as a first order makes a first order of all.
pub record SoPlaced (slots : SlotList) (c : List ℕ) (order : List ℕ) (left n : ℕ) : Type 0 where
  pub small : n < 2 ^ length slots.bidders
  pub same : can_place (board_of slots) c left (holds n) ≡ can_place (board_of slots) c (length slots.bidders) nobody
  pub on : (rest : List ℕ) → FirstOrder (board_of slots) c left (holds n) rest → FirstOrder (board_of slots) c (length slots.bidders) nobody (order ++ rest)
