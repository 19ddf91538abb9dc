-- Lists in order: the place and the amount of a package.
use Rattle.std.proofs.Common.{List, [], ap, arith, false, get_or, inl, inr, length, map, refl, subst, suc, sym, true, zero, ℕ, ◌+◌, ◌<◌, ◌∙◌, ◌∷◌}
use Rattle.std.proofs.Common.{◌≡◌, ◌≤◌, ◌⊎◌}
use Rattle.std.proofs.lemmas.Bool.{cases_Bool, cases_order}
use Rattle.std.proofs.lemmas.List.{length-map, get_or-map, get_or_default}
use Rattle.auction_model.specs.PackageTests.{AllAfter, InOrder, is_before, is_same}
use Rattle.auction_rules.specs.Caps.{greatest}
use Rattle.auction_model.proofs.PackageTestLaws.{is_before-not_same, is_before-trans, is_same-true}
use Rattle.lots.specs.declared.«package».Bid.{Bid}
use Rattle.relative_cap.specs.OwnRounds.{bid_value, entry_lots}
use Rattle.relative_cap.specs.Place.{lots_at, AreBefore, AreBehind, IsPlace}

after-at : (p : List ℕ) (ps : List (List ℕ)) (k : ℕ) → AllAfter p ps → k < length ps → is_before p (get_or ps k []) ≡ true
after-at p [] k after inside = absurd (omega arith)
after-at p (q ∷ ps) zero after inside = after.0
after-at p (q ∷ ps) (suc k) after inside = after-at p ps k after.1 (omega arith)

-- an earlier one comes before a later one
order-at : (ps : List (List ℕ)) (k m : ℕ) → InOrder ps → k < m → m < length ps → is_before (get_or ps k []) (get_or ps m []) ≡ true
order-at [] k m order less inside = absurd (omega arith)
order-at (p ∷ ps) k zero order less inside = absurd (omega arith)
order-at (p ∷ ps) zero (suc m) order less inside = after-at p ps m order.0 (omega arith)
order-at (p ∷ ps) (suc k) (suc m) order less inside = order-at ps k m order.1 (omega arith) (omega arith)

-- if the package in the middle comes before this one, so do all up to it
pub before-more : (list : List Bid) (lots : List ℕ) (middle : ℕ) → InOrder (map entry_lots list) → middle < length list
    → is_before (lots_at list middle) lots ≡ true → AreBefore list lots (middle + 1)
before-more list lots middle order inside own k low =
    elim (cases_order k middle) [
      | inl same ↦ subst (λ m. is_before (lots_at list m) lots ≡ true) (sym same) own
      | inr other ↦ elim other [
        | inl less ↦ is_before-trans (lots_at list k) (lots_at list middle) lots
            (order-at (map entry_lots list) k middle order less (omega (arith, length-map list entry_lots))) own
        | inr more ↦ absurd (omega arith)
      ]
    ]

-- if the package in the middle doesn't come before this one, none after it does
pub behind-more : (list : List Bid) (lots : List ℕ) (middle : ℕ) → InOrder (map entry_lots list) → is_before (lots_at list middle) lots ≡ false
    → AreBehind list lots middle
behind-more list lots middle order own k low inside =
    elim (cases_order k middle) [
      | inl same ↦ subst (λ m. is_before (lots_at list m) lots ≡ false) (sym same) own
      | inr other ↦ elim other [
        | inl less ↦ absurd (omega arith)
        | inr more ↦ elim (cases_Bool (is_before (lots_at list k) lots)) [
          | inl early ↦
              let no : is_before (lots_at list middle) lots ≡ true
              = is_before-trans (lots_at list middle) (lots_at list k) lots (order-at (map entry_lots list) middle k order more
              (omega (arith, length-map list entry_lots))) early in cc
          | inr late ↦ late
        ]
      ]
    ]

-- a package that stands nowhere has no amount
greatest-none : (list : List Bid) (lots : List ℕ) → ((k : ℕ) → k < length list → is_same (lots_at list k) lots ≡ false) → greatest lots (map bid_value list) ≡ 0
greatest-none [] lots apart = refl
greatest-none (b ∷ list) lots apart =
    let rest : greatest lots (map bid_value list) ≡ 0 = greatest-none list lots (λ k inside. apart (suc k) (omega arith)) in
    rw (apart 0 (omega arith), rest) (omega arith)

-- one that is at one place alone has that amount
greatest-one : (list : List Bid) (lots : List ℕ) (i : ℕ) (d : Bid) → i < length list → is_same (get_or list i d).«package» lots ≡ true
    → ((k : ℕ) → (k < i) ⊎ (i < k) → k < length list → is_same (lots_at list k) lots ≡ false) → greatest lots (map bid_value list) ≡ (get_or list i d).amount
greatest-one [] lots i d inside same apart = absurd (omega arith)
greatest-one (b ∷ list) lots zero d inside same apart =
    let none : greatest lots (map bid_value list) ≡ 0 = greatest-none list lots (λ k below. apart (suc k) (inr (omega arith)) (omega arith)) in
    rw (same, none) (omega arith)
greatest-one (b ∷ list) lots (suc i) d inside same apart =
    let rest : greatest lots (map bid_value list) ≡ (get_or list i d).amount
    = greatest-one list lots i d (omega arith) same (λ k other below. apart (suc k)
    (elim other [ inl less ↦ inl (omega arith) | inr more ↦ inr (omega arith) ]) (omega arith)) in
    rw (apart 0 (inl (omega arith)) (omega arith)) (omega (arith, rest))

before-apart : (list : List Bid) (lots : List ℕ) (place k : ℕ) → IsPlace list lots place → k < place → is_same (lots_at list k) lots ≡ false
before-apart list lots place k is low = is_before-not_same (lots_at list k) lots (is.before k low)

behind-apart : (list : List Bid) (lots : List ℕ) (place k : ℕ) → InOrder (map entry_lots list) → IsPlace list lots place → place < k → k < length list
    → is_same (lots_at list k) lots ≡ false
behind-apart list lots place k order is low inside =
    elim (cases_Bool (is_same (lots_at list k) lots)) [
      | inl same ↦
          let early : is_before (lots_at list place) (lots_at list k) ≡ true = order-at (map entry_lots list) place k order low
          (omega (arith, length-map list entry_lots)) in
          let yes : is_before (lots_at list place) lots ≡ true = ap (is_before (lots_at list place)) (sym (is_same-true (lots_at list k) lots same)) ∙ early in
          let no : is_before (lots_at list place) lots ≡ false = is.behind place (omega arith) (omega arith) in cc
      | inr apart ↦ apart
    ]

-- the package of an entry that was read
pub lots-read : (list : List Bid) (k : ℕ) (x : Bid) → k < length list → lots_at list k ≡ (get_or list k x).«package»
lots-read list k x inside = get_or-map entry_lots list k x [] inside

-- a package that is at its place has the amount of that entry
pub amount-there : (list : List Bid) (lots : List ℕ) (place : ℕ) (d x : Bid) → InOrder (map entry_lots list) → IsPlace list lots place → place < length list
    → is_same (get_or list place x).«package» lots ≡ true → (get_or list place d).amount ≡ greatest lots (map bid_value list)
amount-there list lots place d x order is inside same =
    let own : is_same (get_or list place d).«package» lots ≡ true
    = ap (λ (b : Bid). is_same b.«package» lots) (get_or_default list place d x inside) ∙ same in
    sym (greatest-one list lots place d inside own
    (λ k other below. elim other [ inl less ↦ before-apart list lots place k is less | inr more ↦ behind-apart list lots place k order is more below ]))

-- a package whose place is after all entries has no amount
pub amount-past : (list : List Bid) (lots : List ℕ) (place : ℕ) → IsPlace list lots place → length list ≤ place → 0 ≡ greatest lots (map bid_value list)
amount-past list lots place is past = sym (greatest-none list lots (λ k below. before-apart list lots place k is (omega arith)))

-- a package that isn't the one at its place has no amount
pub amount-absent : (list : List Bid) (lots : List ℕ) (place : ℕ) → InOrder (map entry_lots list) → IsPlace list lots place
    → is_same (lots_at list place) lots ≡ false → 0 ≡ greatest lots (map bid_value list)
amount-absent list lots place order is apart = sym (greatest-none list lots (λ k below. elim (cases_order k place) [
  | inl same ↦ subst (λ m. is_same (lots_at list m) lots ≡ false) (sym same) apart
  | inr other ↦ elim other [ inl less ↦ before-apart list lots place k is less | inr more ↦ behind-apart list lots place k order is more below ]
]))
