-- A menu without a bidder: its choices are those that do not use that bidder.
use Rattle.std.specs.Prelude.{◌≡◌, ℕ, zero, suc, ◌-◌, ◌≤◌, ◌<◌, Bool, true, false, ◌&&◌, ◌==◌, not, List, [], ◌∷◌, get_or, refl, ℤ, pos}
use Rattle.std.proofs.Common.{sym, ◌∙◌, arith, eqb, leb, inl, inr}
use Rattle.std.proofs.lemmas.Int.{ints}
use Rattle.std.proofs.lemmas.Bool.{cond-true, cond-false, eq-eqb, ne_eqb, cases_eq, and_right, le-leb, lt-leb}
use Rattle.auction_model.specs.Menu.{Menu, is_known_after, packages_after, fits_after, without}
use Rattle.auction_model.specs.Package.{is_within}
use Rattle.auction_model.specs.Market.{uses, sum_after}
use Rattle.auction_model.specs.Place.{left_at}
use Rattle.auction_model.specs.Greatest.{IsGreatestValue, IsFirstGreatest}
use Rattle.auction_model.specs.Table.{IsEntry, IsLine}
use Rattle.auction_model.proofs.PlainLaws.{packages-without, fits-without_none, IsFirstGreatest-same}
use Rattle.auction_model.proofs.TableLaws.{IsGreatestValue-same}
use Rattle.auction_model.proofs.BidderLaws.{bidder-none, bidder-all}

-- past the bidder nothing changes
known-past_skip : (m : Menu) (j k : ℕ) (c : List ℕ) → j ≤ k → is_known_after (without m j) k c ≡ is_known_after m k c
known-past_skip m j k [] h = refl
known-past_skip m j k (i ∷ c) h =
    let other : eqb (suc k) j ≡ false = ne_eqb (suc k) j (omega arith) in
    rw (known-past_skip m j (suc k) c (omega arith), cond-false (eqb (suc k) j) 0 (m.bids (suc k)) other) refl

-- the number that a choice of the bidders after k gives to bidder j
abbrev pub given_after : ℕ → ℕ → List ℕ → ℕ
given_after k j c = get_or c (j - suc k) 0

skip-first : (i n : ℕ) (rest : Bool) → leb i 0 && rest ≡ (leb i n && rest) && not (not (eqb i 0))
skip-first zero n true = rw (le-leb 0 n (omega arith)) refl
skip-first zero n false = rw (le-leb 0 n (omega arith)) refl
skip-first (suc i) n rest = rw (lt-leb (suc i) 0 (omega arith), ne_eqb (suc i) 0 (omega arith)) (sym (and_right (leb (suc i) n && rest) false refl))

swap-last : (a b t : Bool) → a && (b && t) ≡ (a && b) && t
swap-last true b t = refl
swap-last false b t = refl

known-skip : (m : Menu) (j k : ℕ) (c : List ℕ) → k < j → is_known_after (without m j) k c ≡ is_known_after m k c && not (not (eqb (given_after k j c) 0))
known-skip m j k [] h = and-true (k == m.bidders)
  where
    and-true : (a : Bool) → a ≡ a && true
    and-true true = refl
    and-true false = refl
known-skip m j k (i ∷ c) h =
    elim (cases_eq (suc k) j) [
      | inl here ↦
          let none : (without m j).bids (suc k) ≡ 0 = cond-true (eqb (suc k) j) 0 (m.bids (suc k)) (eq-eqb (suc k) j here) in
          let first : j - suc k ≡ 0 = omega (arith, here) in
          rw (none, known-past_skip m j (suc k) c (omega (arith, here)), first) (skip-first i (m.bids (suc k)) (is_known_after m (suc k) c))
      | inr other ↦
          let same : (without m j).bids (suc k) ≡ m.bids (suc k) = cond-false (eqb (suc k) j) 0 (m.bids (suc k)) (ne_eqb (suc k) j other) in
          let next : j - suc k ≡ suc (j - suc (suc k)) = omega (arith, other) in
          rw (same, known-skip m j (suc k) c (omega (arith, other)), next) (swap-last (leb i (m.bids (suc k))) (is_known_after m (suc k) c)
          (not (not (eqb (get_or c (j - suc (suc k)) 0) 0))))
    ]

-- the last of three conditions moves before the second
pub move-last : (a b t : Bool) → (a && t) && b ≡ (a && b) && t
move-last true true t = and-true t
  where
    and-true : (a : Bool) → a && true ≡ a
    and-true true = refl
    and-true false = refl
move-last true false true = refl
move-last true false false = refl
move-last false b t = refl

-- with bidder j left out the choices that fit are those that fit and do not use j
pub fits-skip : (m : Menu) (j : ℕ) (s c : List ℕ) → 0 < j → fits_after (without m j) 0 s c ≡ fits_after m 0 s c && not (uses c j)
fits-skip m j s c h =
    rw (known-skip m j 0 c h, packages-without m j 0 c) (move-last (is_known_after m 0 c) (is_within (packages_after m 0 c) s) (not (uses c j)))

fits-past_skip : (m : Menu) (j k : ℕ) (s c : List ℕ) → j ≤ k → fits_after (without m j) k s c ≡ fits_after m k s c
fits-past_skip m j k s c h = rw (known-past_skip m j k c h, packages-without m j k c) refl

-- the lines from j on are those of all bids
pub line-past_skip : (m : Menu) (counts : ℕ → ℕ → ℤ) (supply : List ℕ) (j k : ℕ) (line : List ℤ) → j ≤ k → IsLine (without m 0) counts supply k line
    → IsLine (without m j) counts supply k line
line-past_skip m counts supply j k line h e = record {
  places = e.places;
  exact = λ s inside. IsGreatestValue-same (fits_after (without m 0) k (left_at supply s)) (fits_after (without m j) k (left_at supply s))
      (sum_after counts k) (get_or line s (pos 0))
      (λ c. fits-without_none m k (left_at supply s) c ∙ sym (fits-past_skip m j k (left_at supply s) c h)) (e.exact s inside);
}

-- line j - 1 is line j if bidder j has no bids and counts nothing idle
pub line-at_skip : (m : Menu) (counts : ℕ → ℕ → ℤ) (supply : List ℕ) (j : ℕ) (line : List ℤ) → 0 < j → j ≤ m.bidders → m.lots j 0 ≡ [] → counts j 0 ≡ pos 0
    → IsLine (without m j) counts supply j line → IsLine (without m j) counts supply (j - 1) line
line-at_skip m counts supply j line some inside empty idle e =
    let none : (without m j).bids j ≡ 0 = cond-true (eqb j j) 0 (m.bids j) (eq-eqb j j refl) in
    bidder-all (without m j) counts supply j some line inside
    (rw none (bidder-none (without m j) counts supply j some line line (pos 0) (sym idle) empty e refl (λ s h. omega (arith, ints))))

-- what a table without bidder j says of the market
pub entry-skip : (m : Menu) (counts : ℕ → ℕ → ℤ) (supply : List ℕ) (j : ℕ) (most : ℤ) → 0 < j → IsEntry (without m j) counts 0 supply most
    → IsGreatestValue (λ c. fits_after m 0 supply c && not (uses c j)) (sum_after counts 0) most
entry-skip m counts supply j most some e =
    IsGreatestValue-same (fits_after (without m j) 0 supply) (λ c. fits_after m 0 supply c && not (uses c j)) (sum_after counts 0) most
    (λ c. fits-skip m j supply c some) e

-- the first of the greatest with bidder j left out is that of the fitting choices that don't use j
pub first-skip : (m : Menu) (counts : ℕ → ℕ → ℤ) (supply : List ℕ) (j : ℕ) (c : List ℕ) → 0 < j → IsFirstGreatest (fits_after (without m j) 0 supply)
    (sum_after counts 0) c → IsFirstGreatest (λ d. fits_after m 0 supply d && not (uses d j)) (sum_after counts 0) c
first-skip m counts supply j c some g =
    IsFirstGreatest-same (fits_after (without m j) 0 supply) (λ d. fits_after m 0 supply d && not (uses d j)) (sum_after counts 0) (sum_after counts 0) c
    (λ d. fits-skip m j supply d some) (λ d. refl) g
