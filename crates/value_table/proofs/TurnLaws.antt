-- Choices of the bidders turned round: put before choices of the bidders after them they are choices of all.
use Rattle.std.specs.Prelude.{◌≡◌, ℕ, zero, suc, ◌+◌, ◌-◌, ◌≤◌, ◌<◌, Bool, true, false, ◌&&◌, nat_le, ◌==◌, IsTrue, List, [], ◌∷◌, length, ℤ, ◌+ℤ◌, refl}
use Rattle.std.proofs.Common.{sym, ◌∙◌, ap, subst, arith}
use Rattle.std.proofs.lemmas.Bool.{eq-eqb}
use Rattle.std.proofs.lemmas.Int.{ints}
use Rattle.auction_model.specs.Package.{together}
use Rattle.auction_model.specs.Market.{sum_after}
use Rattle.auction_model.specs.Menu.{Menu, is_known_after, packages_after}
use Rattle.auction_model.proofs.ChoiceLaws.{known-length}
use Rattle.auction_model.proofs.BookMarket.{together-comm}
use Rattle.value_table.specs.Turned.{in_order, worths_in_order}

-- the numbers of the last bidder so far come first, and go before the others one by one
abbrev pub onto : List ℕ → List ℕ → List ℕ
onto [] rest = rest
onto (i ∷ c) rest = onto c (i ∷ rest)

-- a choice taken apart: the numbers of the first bidders turned round, and the others
pub record Parted (c : List ℕ) (k : ℕ) : Type 0 where
  pub front : List ℕ
  pub back : List ℕ
  pub whole : onto front back ≡ c
  pub count : length front ≡ k

-- k numbers more are turned round
part : (k : ℕ) (front back : List ℕ) → k ≤ length back → Parted (onto front back) (length front + k)
part zero front back h = record { front = front; back = back; whole = refl; count = omega arith }
part (suc k) front [] h = absurd (omega arith)
part (suc k) front (i ∷ back) h =
    let p = part k (i ∷ front) back (omega (arith, h)) in
    record { front = p.front; back = p.back; whole = p.whole; count = omega (arith, p.count) }

-- each choice of at least k numbers is taken apart so
pub parted : (c : List ℕ) (k : ℕ) → k ≤ length c → Parted c k
parted c k h = let p = part k [] c h in record { front = p.front; back = p.back; whole = p.whole; count = omega (arith, p.count) }

-- three packages together
together-assoc : (p q r : List ℕ) → together (together p q) r ≡ together p (together q r)
together-assoc [] q r = refl
together-assoc (a ∷ p) [] r = refl
together-assoc (a ∷ p) (b ∷ q) [] = refl
together-assoc (a ∷ p) (b ∷ q) (c ∷ r) = let e : a + b + c ≡ a + (b + c) = omega arith in rw (e, together-assoc p q r) refl

-- the package of one bidder goes from the others to the first ones
move-between : (p own q : List ℕ) → together p (together own q) ≡ together (together own p) q
move-between p own q = sym (together-assoc p own q) ∙ ap (λ r. together r q) (together-comm p own)

-- the same for the test of its number
swap-known : (a b c : Bool) → a && (b && c) ≡ (b && a) && c
swap-known true true c = refl
swap-known true false c = refl
swap-known false true c = refl
swap-known false false c = refl

-- the number of a bidder of the first k, turned round
turn-back : (n k : ℕ) → suc k ≤ n → suc n - suc (n - suc k) ≡ suc k
turn-back n k h = omega (arith, h)

-- and the place after it in the turned order
turn-next : (n k : ℕ) → suc k ≤ n → suc (n - suc k) ≡ n - k
turn-next n k h = omega (arith, h)

-- the sum of such a choice is that of both parts
pub sum-turned : (n : ℕ) (counts : ℕ → ℕ → ℤ) (front back : List ℕ) → length front ≤ n
    → sum_after counts 0 (onto front back) ≡ sum_after (worths_in_order true n counts) (n - length front) front +ℤ sum_after counts (length front) back
sum-turned n counts [] back h = omega (arith, ints)
sum-turned n counts (i ∷ front) back h =
    let k = length front in
    let turned = worths_in_order true n counts in
    let was : sum_after counts 0 (onto front (i ∷ back)) ≡ sum_after turned (n - k) front +ℤ (counts (suc k) i +ℤ sum_after counts (suc k) back) =
    sum-turned n counts front (i ∷ back) (omega (arith, h)) in
    let own : turned (suc (n - suc k)) i ≡ counts (suc k) i = ap (λ j. counts j i) (turn-back n k h) in
    let rest : sum_after turned (suc (n - suc k)) front ≡ sum_after turned (n - k) front = ap (λ j. sum_after turned j front) (turn-next n k h) in
    omega (arith, ints, was, own, rest)

-- such a choice is known if both parts are, and takes what both take
pub record IsOfBoth (m : Menu) (front back : List ℕ) : Type 0 where
  pub known : is_known_after m 0 (onto front back) ≡ is_known_after (in_order true m) (m.bidders - length front) front && is_known_after m (length front) back
  pub taken : packages_after m 0 (onto front back) ≡ together (packages_after (in_order true m) (m.bidders - length front) front)
      (packages_after m (length front) back)

pub parts-turned : (m : Menu) (front back : List ℕ) → length front ≤ m.bidders → IsOfBoth m front back
parts-turned m [] back h =
    let last : ((m.bidders - 0) == m.bidders) ≡ true = eq-eqb (m.bidders - 0) m.bidders (omega arith) in
    record { known = rw last refl; taken = refl }
parts-turned m (i ∷ front) back h =
    let k = length front in
    let n = m.bidders in
    let before = parts-turned m front (i ∷ back) (omega (arith, h)) in
    let bids : (in_order true m).bids (suc (n - suc k)) ≡ m.bids (suc k) = ap m.bids (turn-back n k h) in
    let lots : (in_order true m).lots (suc (n - suc k)) i ≡ m.lots (suc k) i = ap (λ j. m.lots j i) (turn-back n k h) in
    let known : is_known_after (in_order true m) (suc (n - suc k)) front ≡ is_known_after (in_order true m) (n - k) front =
    ap (λ j. is_known_after (in_order true m) j front) (turn-next n k h) in
    let taken : packages_after (in_order true m) (suc (n - suc k)) front ≡ packages_after (in_order true m) (n - k) front =
    ap (λ j. packages_after (in_order true m) j front) (turn-next n k h) in
    record {
      known = before.known
          ∙ swap-known (is_known_after (in_order true m) (n - k) front) (nat_le i (m.bids (suc k))) (is_known_after m (suc k) back)
          ∙ ap (λ b. (nat_le i b && is_known_after (in_order true m) (n - k) front) && is_known_after m (suc k) back) (sym bids)
          ∙ ap (λ b. (nat_le i ((in_order true m).bids (suc (n - suc k))) && b) && is_known_after m (suc k) back) (sym known);
      taken = before.taken
          ∙ move-between (packages_after (in_order true m) (n - k) front) (m.lots (suc k) i) (packages_after m (suc k) back)
          ∙ ap (λ p. together (together p (packages_after (in_order true m) (n - k) front)) (packages_after m (suc k) back)) (sym lots)
          ∙ ap (λ p. together (together ((in_order true m).lots (suc (n - suc k)) i) p) (packages_after m (suc k) back)) (sym taken);
    }

-- menus with the same bids for the bidders after k
pub known-same : (m o : Menu) (k : ℕ) (c : List ℕ) → m.bidders ≡ o.bidders → ((j : ℕ) → k < j → m.bids j ≡ o.bids j)
    → is_known_after m k c ≡ is_known_after o k c
known-same m o k [] e same = rw e refl
known-same m o k (i ∷ c) e same = rw (same (suc k) (omega arith), known-same m o (suc k) c e (λ j h. same j (omega (arith, h)))) refl

-- menus with the same packages
pub taken-same : (m o : Menu) (k : ℕ) (c : List ℕ) → ((j i : ℕ) → m.lots j i ≡ o.lots j i) → packages_after m k c ≡ packages_after o k c
taken-same m o k [] same = refl
taken-same m o k (i ∷ c) same = rw (same (suc k) i, taken-same m o (suc k) c same) refl

-- the same bidders and packages with other bids
abbrev pub with_bids : Menu → (ℕ → ℕ) → Menu
with_bids m bids = record { bidders = m.bidders; bids = bids; lots = m.lots }

-- a choice whose first k numbers are turned round
pub sum-parts : (n : ℕ) (counts : ℕ → ℕ → ℤ) (k : ℕ) (front back : List ℕ) → k ≤ n → length front ≡ k
    → sum_after counts 0 (onto front back) ≡ sum_after (worths_in_order true n counts) (n - k) front +ℤ sum_after counts k back
sum-parts n counts k front back inside count =
    subst (λ h. sum_after counts 0 (onto front back) ≡ sum_after (worths_in_order true n counts) (n - h) front +ℤ sum_after counts h back) count
    (sum-turned n counts front back (omega (arith, count, inside)))

module _ (m : Menu) (bids : ℕ → ℕ) (k : ℕ) (inside : k ≤ m.bidders) (near : (j : ℕ) → j ≤ k → bids j ≡ m.bids j) where
  -- the first k bidders have the bids of all
  known-near : (front : List ℕ) → is_known_after (in_order true (with_bids m bids)) (m.bidders - k) front ≡ is_known_after (in_order true m)
      (m.bidders - k) front
  known-near front = known-same (in_order true (with_bids m bids)) (in_order true m) (m.bidders - k) front refl
      (λ j h. near (suc m.bidders - j) (omega (arith, h, inside)))

  -- and their packages
  taken-near : (front : List ℕ) → packages_after (in_order true (with_bids m bids)) (m.bidders - k) front ≡ packages_after (in_order true m)
      (m.bidders - k) front
  taken-near front = taken-same (in_order true (with_bids m bids)) (in_order true m) (m.bidders - k) front (λ j i. refl)

  -- so if only their bids are the same, a choice is known if its parts are
  pub known-parts : (front back : List ℕ) → length front ≡ k → is_known_after (with_bids m bids) 0 (onto front back) ≡ is_known_after (in_order true m)
      (m.bidders - k) front && is_known_after (with_bids m bids) k back
  known-parts front back count =
      subst (λ h. is_known_after (with_bids m bids) 0 (onto front back) ≡ is_known_after (in_order true (with_bids m bids))
      (m.bidders - h) front && is_known_after (with_bids m bids) h back) count
      (parts-turned (with_bids m bids) front back (omega (arith, count, inside))).known
      ∙ ap (λ b. b && is_known_after (with_bids m bids) k back) (known-near front)

  -- and takes what its parts take
  pub taken-parts : (front back : List ℕ) → length front ≡ k → packages_after (with_bids m bids) 0 (onto front back) ≡ together
      (packages_after (in_order true m) (m.bidders - k) front) (packages_after (with_bids m bids) k back)
  taken-parts front back count =
      subst (λ h. packages_after (with_bids m bids) 0 (onto front back) ≡ together (packages_after (in_order true (with_bids m bids)) (m.bidders - h) front)
      (packages_after (with_bids m bids) h back)) count
      (parts-turned (with_bids m bids) front back (omega (arith, count, inside))).taken
      ∙ ap (λ p. together p (packages_after (with_bids m bids) k back)) (taken-near front)

-- a known choice of the first k bidders, turned round, has k numbers
pub turned-length : (m : Menu) (k : ℕ) (front : List ℕ) → k ≤ m.bidders → IsTrue (is_known_after (in_order true m) (m.bidders - k) front) → length front ≡ k
turned-length m k front inside t = omega (arith, inside, known-length (in_order true m) (m.bidders - k) front t)
