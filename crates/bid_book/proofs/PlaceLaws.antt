-- Bids in package order: the place of a new one.
use Rattle.std.specs.Prelude.{◌≡◌, ℕ, zero, suc, ◌≤◌, ◌<◌, true, false, List, [], ◌∷◌, length, get_or, refl}
use Rattle.std.proofs.Common.{inl, inr, set, sym, ◌∙◌, ap, subst, arith}
use Rattle.std.specs.List.{insert}
use Rattle.std.proofs.lemmas.Bool.{cases_Bool, cases_order, false≢true}
use Rattle.auction_model.specs.Book.{BookBid, no_bid}
use Rattle.auction_model.specs.Package.{ComesBefore}
use Rattle.auction_model.specs.Entries.{with_entry}
use Rattle.auction_model.specs.PackageTests.{is_before, is_same}
use Rattle.auction_model.proofs.PackageTestLaws.{is_before-comes, is_before-not_same, is_before-total, is_before-trans, is_same-refl, is_same-true}
use Rattle.auction_model.proofs.PackageTestLaws.{not_same-sym}
use Rattle.bid_book.specs.Changes.{InPackageOrder, IsPlaceIn}

-- a package doesn't come before itself
pub not-itself : (p : List ℕ) → is_before p p ≡ true → ⊥
not-itself p early = false≢true (sym (is_before-not_same p p early) ∙ is_same-refl p)

-- a package that comes after another doesn't come before it
pub not-before : (p q : List ℕ) → is_before p q ≡ true → is_before q p ≡ false
not-before p q early =
    elim (cases_Bool (is_before q p)) [
      | inl late ↦ absurd (not-itself p (is_before-trans p q p early late))
      | inr other ↦ other
    ]

-- the test of packages with as many categories
pub not-comes : (p q : List ℕ) → length p ≡ length q → (ComesBefore p q → ⊥) → is_before p q ≡ false
not-comes p q count other =
    elim (cases_Bool (is_before p q)) [
      | inl early ↦ absurd (other (is_before-comes p q count early))
      | inr late ↦ late
    ]

-- the packages before a place come before these lots
abbrev pub AllBefore : List BookBid → List ℕ → ℕ → Type 0
AllBefore bids lots place = (k : ℕ) → k < place → is_before (get_or bids k no_bid).lots lots ≡ true

-- a bid in the place of the one for its package
pub put-taken : (bids : List BookBid) (lots : List ℕ) (amount place : ℕ) → AllBefore bids lots place → place < length bids
    → (get_or bids place no_bid).lots ≡ lots → with_entry lots amount bids ≡ set bids place (record { lots = lots; amount = amount })
put-taken [] lots amount place before inside own = absurd (omega (arith, inside))
put-taken (b ∷ bids) lots amount zero before inside own =
    let same : is_same lots b.lots ≡ true = subst (λ (x : List ℕ). is_same x b.lots ≡ true) own (is_same-refl b.lots) in
    rw same refl
put-taken (b ∷ bids) lots amount (suc place) before inside own =
    let early : is_before b.lots lots ≡ true = before 0 (omega arith) in
    rw (not_same-sym b.lots lots (is_before-not_same b.lots lots early), not-before b.lots lots early)
    (ap (λ (l : List BookBid). b ∷ l) (put-taken bids lots amount place (λ k low. before (suc k) (omega (arith, low))) (omega (arith, inside)) own))

-- a bid for a package for which there is none
pub put-free : (bids : List BookBid) (lots : List ℕ) (amount place : ℕ) → AllBefore bids lots place → place ≤ length bids
    → (place < length bids → is_before (get_or bids place no_bid).lots lots ≡ false)
    → ((place < length bids) × ((get_or bids place no_bid).lots ≡ lots) → ⊥) → with_entry lots amount bids ≡ insert bids place
    (record { lots = lots; amount = amount })
put-free [] lots amount zero before last behind other = refl
put-free [] lots amount (suc place) before last behind other = absurd (omega (arith, last))
put-free (b ∷ bids) lots amount zero before last behind other =
    let some : 0 < length (b ∷ bids) = omega arith in
    elim (cases_Bool (is_same b.lots lots)) [
      | inl same ↦ absurd (other (some, is_same-true b.lots lots same))
      | inr apart ↦
          let after : is_before lots b.lots ≡ true = is_before-total b.lots lots apart (behind some) in
          rw (not_same-sym b.lots lots apart, after) refl
    ]
put-free (b ∷ bids) lots amount (suc place) before last behind other =
    let early : is_before b.lots lots ≡ true = before 0 (omega arith) in
    rw (not_same-sym b.lots lots (is_before-not_same b.lots lots early), not-before b.lots lots early)
    (ap (λ (l : List BookBid). b ∷ l)
    (put-free bids lots amount place (λ k low. before (suc k) (omega (arith, low))) (omega (arith, last)) (λ inside. behind (omega (arith, inside)))
    (λ there. other (omega (arith, there.0), there.1))))

-- if a bid is for these lots, it is at their place
pub place-there : (bids : List BookBid) (lots : List ℕ) (place i : ℕ) → InPackageOrder bids → IsPlaceIn bids lots place → i < length bids
    → (get_or bids i no_bid).lots ≡ lots → (place < length bids) × ((get_or bids place no_bid).lots ≡ lots)
place-there bids lots place i order at inside own =
    elim (cases_order i place) [
      | inl same ↦ subst (λ (n : ℕ). (n < length bids) × ((get_or bids n no_bid).lots ≡ lots)) same (inside, own)
      | inr other ↦ elim other [
        | inl low ↦ absurd (not-itself lots (subst (λ (p : List ℕ). is_before p lots ≡ true) own (at.before i low)))
        | inr high ↦
            let here : place < length bids = omega (arith, high, inside) in
            let early : is_before (get_or bids place no_bid).lots lots ≡ true = subst (λ (p : List ℕ). is_before (get_or bids place no_bid).lots p ≡ true) own
            (order place i high inside) in
            absurd (false≢true (sym (at.behind here) ∙ early))
      ]
    ]
