-- Choices of two menus whose numbers go together, bidder by bidder: the winning choice of one gives that of the other.
use Rattle.std.specs.Prelude.{◌≡◌, ◌≢◌, ◌⊎◌, ℕ, zero, suc, ◌-◌, ◌≤◌, ◌<◌, nat_le, ◌==◌, IsTrue, List, [], ◌∷◌, get_or, ℤ, ◌+ℤ◌, ◌<ℤ◌, refl}
use Rattle.std.proofs.Common.{inl, inr, set, sym, ◌∙◌, ap, subst, arith}
use Rattle.std.proofs.lemmas.Bool.{and_from, and_parts, cases_eq, le-leb, leb-true}
use Rattle.std.proofs.lemmas.Int.{ints}
use Rattle.auction_model.specs.Greatest.{IsFirstGreatest}
use Rattle.auction_model.specs.Market.{is_earlier, is_number_before, sum_after}
use Rattle.auction_model.specs.Menu.{Menu, fits_after, is_known_after, packages_after}
use Rattle.auction_model.specs.Package.{is_within, together}
use Rattle.auction_model.proofs.ChoiceLaws.{known-length}
use Rattle.auction_model.proofs.OrderLaws.{earlier-number, earlier-rest, earlier-says}

-- the numbers of two choices of the bidders after k go together
abbrev pub AreMatched : (ℕ → ℕ → ℕ → Type 0) → ℕ → List ℕ → List ℕ → Type 0
AreMatched P k [] [] = Unit {0}
AreMatched P k [] (h ∷ d) = ⊥
AreMatched P k (g ∷ c) [] = ⊥
AreMatched P k (g ∷ c) (h ∷ d) = P (suc k) g h × AreMatched P (suc k) c d

-- numbers that go together are known to both menus, take the same, are worth the same, and keep their order
pub record Pairing (m o : Menu) (worth other : ℕ → ℕ → ℤ) (P : ℕ → ℕ → ℕ → Type 0) : Type 0 where
  pub bidders : m.bidders ≡ o.bidders
  pub known : (k g h : ℕ) → P (suc k) g h → (g ≤ m.bids (suc k)) × (h ≤ o.bids (suc k))
  pub lots : (k g h : ℕ) → P (suc k) g h → m.lots (suc k) g ≡ o.lots (suc k) h
  pub worths : (k g h : ℕ) → P (suc k) g h → worth (suc k) g ≡ other (suc k) h
  pub order : (k g h e f : ℕ) → P (suc k) g h → P (suc k) e f → IsTrue (is_number_before h f) → IsTrue (is_number_before g e)
  pub one : (k g h e : ℕ) → P (suc k) g h → P (suc k) e h → g ≡ e

module _ (m o : Menu) (worth other : ℕ → ℕ → ℤ) (P : ℕ → ℕ → ℕ → Type 0) (pairs : Pairing m o worth other P) where
  known-first : (k : ℕ) (c d : List ℕ) → AreMatched P k c d → IsTrue (is_known_after o k d) → IsTrue (is_known_after m k c)
  known-first k [] [] are t = subst (λ (n : ℕ). IsTrue (k == n)) (sym pairs.bidders) t
  known-first k [] (h ∷ d) are t = absurd are
  known-first k (g ∷ c) [] are t = absurd are
  known-first k (g ∷ c) (h ∷ d) are t =
      let p = and_parts (nat_le h (o.bids (suc k))) (is_known_after o (suc k) d) t in
      and_from (nat_le g (m.bids (suc k))) (is_known_after m (suc k) c) (le-leb g (m.bids (suc k)) (pairs.known k g h are.0).0)
      (known-first (suc k) c d are.1 p.1)

  known-second : (k : ℕ) (c d : List ℕ) → AreMatched P k c d → IsTrue (is_known_after m k c) → IsTrue (is_known_after o k d)
  known-second k [] [] are t = subst (λ (n : ℕ). IsTrue (k == n)) pairs.bidders t
  known-second k [] (h ∷ d) are t = absurd are
  known-second k (g ∷ c) [] are t = absurd are
  known-second k (g ∷ c) (h ∷ d) are t =
      let p = and_parts (nat_le g (m.bids (suc k))) (is_known_after m (suc k) c) t in
      and_from (nat_le h (o.bids (suc k))) (is_known_after o (suc k) d) (le-leb h (o.bids (suc k)) (pairs.known k g h are.0).1)
      (known-second (suc k) c d are.1 p.1)

  taken-both : (k : ℕ) (c d : List ℕ) → AreMatched P k c d → packages_after m k c ≡ packages_after o k d
  taken-both k [] [] are = refl
  taken-both k [] (h ∷ d) are = absurd are
  taken-both k (g ∷ c) [] are = absurd are
  taken-both k (g ∷ c) (h ∷ d) are =
      ap (λ (l : List ℕ). together l (packages_after m (suc k) c)) (pairs.lots k g h are.0) ∙ ap (together (o.lots (suc k) h)) (taken-both (suc k) c d are.1)

  sum-both : (k : ℕ) (c d : List ℕ) → AreMatched P k c d → sum_after worth k c ≡ sum_after other k d
  sum-both k [] [] are = refl
  sum-both k [] (h ∷ d) are = absurd are
  sum-both k (g ∷ c) [] are = absurd are
  sum-both k (g ∷ c) (h ∷ d) are =
      ap (λ (z : ℤ). z +ℤ sum_after worth (suc k) c) (pairs.worths k g h are.0) ∙ ap (λ (z : ℤ). other (suc k) h +ℤ z) (sum-both (suc k) c d are.1)

  fits-first : (supply c d : List ℕ) → AreMatched P 0 c d → IsTrue (fits_after o 0 supply d) → IsTrue (fits_after m 0 supply c)
  fits-first supply c d are t =
      let p = and_parts (is_known_after o 0 d) (is_within (packages_after o 0 d) supply) t in
      and_from (is_known_after m 0 c) (is_within (packages_after m 0 c) supply) (known-first 0 c d are p.0)
      (subst (λ (l : List ℕ). IsTrue (is_within l supply)) (sym (taken-both 0 c d are)) p.1)

  fits-second : (supply c d : List ℕ) → AreMatched P 0 c d → IsTrue (fits_after m 0 supply c) → IsTrue (fits_after o 0 supply d)
  fits-second supply c d are t =
      let p = and_parts (is_known_after m 0 c) (is_within (packages_after m 0 c) supply) t in
      and_from (is_known_after o 0 d) (is_within (packages_after o 0 d) supply) (known-second 0 c d are p.0)
      (subst (λ (l : List ℕ). IsTrue (is_within l supply)) (taken-both 0 c d are) p.1)

  -- the order of ties goes over
  earlier-both : (k : ℕ) (a d c e : List ℕ) → AreMatched P k a d → AreMatched P k c e → IsTrue (is_earlier d e) → IsTrue (is_earlier a c)
  earlier-both k [] [] c e are also t = absurd (cc t)
  earlier-both k [] (h ∷ d) c e are also t = absurd are
  earlier-both k (g ∷ a) [] c e are also t = absurd are
  earlier-both k (g ∷ a) (h ∷ d) [] [] are also t = absurd (cc t)
  earlier-both k (g ∷ a) (h ∷ d) [] (f ∷ e) are also t = absurd also
  earlier-both k (g ∷ a) (h ∷ d) (i ∷ c) [] are also t = absurd also
  earlier-both k (g ∷ a) (h ∷ d) (i ∷ c) (f ∷ e) are also t =
      elim (earlier-says h f d e t) [
        | inl before ↦ earlier-number g i a c (pairs.order k g h i f are.0 also.0 before)
        | inr same ↦
            let own : g ≡ i = pairs.one k g h i are.0 (subst (λ (n : ℕ). P (suc k) i n) (sym same.0) also.0) in
            subst (λ (n : ℕ). IsTrue (is_earlier (g ∷ a) (n ∷ c))) own (earlier-rest g a c (earlier-both (suc k) a d c e are.1 also.1 same.1))
      ]

  -- the winning choice goes over if each other choice goes together with one of the first menu, or is worth less
  pub stays : (supply c e : List ℕ) → IsFirstGreatest (fits_after m 0 supply) (sum_after worth 0) c → AreMatched P 0 c e
      → ((d : List ℕ) → IsTrue (fits_after o 0 supply d) → ((a : List ℕ) × AreMatched P 0 a d) ⊎ (sum_after other 0 d <ℤ sum_after worth 0 c))
      → IsFirstGreatest (fits_after o 0 supply) (sum_after other 0) e
  stays supply c e g are all =
      let own : sum_after worth 0 c ≡ sum_after other 0 e = sum-both 0 c e are in
      record {
        passed = fits-second supply c e are g.passed;
        greatest = λ d t.
            elim (all d t) [
              | inl pair ↦ omega (arith, ints, own, sum-both 0 pair.0 d pair.1, g.greatest pair.0 (fits-first supply pair.0 d pair.1 t))
              | inr less ↦ omega (arith, ints, own, less)
            ];
        first = λ d t early.
            elim (all d t) [
              | inl pair ↦ omega (
                arith,
                ints,
                own,
                sum-both 0 pair.0 d pair.1,
                g.first pair.0 (fits-first supply pair.0 d pair.1 t)
                    (earlier-both 0 pair.0 d c e pair.1 are early),
              )
              | inr less ↦ omega (arith, ints, own, less)
            ];
      }

-- ---- numbers that are the same except for those of one bidder

-- the numbers of bidder j go together by Own, and those of each other bidder are the same
abbrev pub ButFor : ℕ → (ℕ → ℕ → Type 0) → (ℕ → ℕ) → ℕ → ℕ → ℕ → Type 0
ButFor j Own bids q g h = ((q ≡ j) × Own g h) ⊎ ((q ≢ j) × ((g ≡ h) × (h ≤ bids q)))

module _ (m : Menu) (j : ℕ) (Own : ℕ → ℕ → Type 0) where
  -- the choice after bidder j goes together with itself
  same-matched : (k : ℕ) (c : List ℕ) → j ≤ k → IsTrue (is_known_after m k c) → AreMatched (ButFor j Own m.bids) k c c
  same-matched k [] past t = tt
  same-matched k (g ∷ c) past t =
      let p = and_parts (nat_le g (m.bids (suc k))) (is_known_after m (suc k) c) t in
      let other : suc k ≢ j = λ e. absurd (omega (arith, past, e)) in
      (inr (other, (refl, leb-true g (m.bids (suc k)) p.0)), same-matched (suc k) c (omega (arith, past)) p.1)

  -- and a choice with the one in which bidder j has another number
  pub set-matched : (k h n : ℕ) (c : List ℕ) → n ≡ j - suc k → k < j → j ≤ m.bidders → IsTrue (is_known_after m k c) → Own (get_or c n 0) h
      → AreMatched (ButFor j Own m.bids) k c (set c n h)
  set-matched k h n [] place low inside t own = absurd (omega (arith, low, inside, known-length m k [] t))
  set-matched k h zero (g ∷ c) place low inside t own =
      let p = and_parts (nat_le g (m.bids (suc k))) (is_known_after m (suc k) c) t in
      let same : suc k ≡ j = omega (arith, place, low) in
      (inl (same, own), same-matched (suc k) c (omega (arith, same)) p.1)
  set-matched k h (suc n) (g ∷ c) place low inside t own =
      let p = and_parts (nat_le g (m.bids (suc k))) (is_known_after m (suc k) c) t in
      let other : suc k ≢ j = λ e. absurd (omega (arith, place, e)) in
      (inr (other, (refl, leb-true g (m.bids (suc k)) p.0)), set-matched (suc k) h n c (omega (arith, place)) (omega (arith, place)) inside p.1 own)

  -- a choice goes together with one, if its number for bidder j does
  pub has-match : (o : Menu) (k : ℕ) (d : List ℕ) → ((q : ℕ) → 0 < q → q ≢ j → m.bids q ≡ o.bids q) → IsTrue (is_known_after o k d)
      → (k < j → (g : ℕ) × Own g (get_or d (j - suc k) 0))
      → (a : List ℕ) × AreMatched (ButFor j Own m.bids) k a d
  has-match o k [] bids t pick = ([], tt)
  has-match o k (h ∷ d) bids t pick =
      let p = and_parts (nat_le h (o.bids (suc k))) (is_known_after o (suc k) d) t in
      let rest = has-match o (suc k) d bids p.1
      (λ less.
      let next : j - suc k ≡ suc (j - suc (suc k)) = omega (arith, less) in
      subst (λ (n : ℕ). (g : ℕ) × Own g (get_or (h ∷ d) n 0)) next (pick (omega (arith, less)))) in
      elim (cases_eq (suc k) j) [
        | inl own ↦
            let here : j - suc k ≡ 0 = omega (arith, own) in
            let own_pick : (g : ℕ) × Own g h = subst (λ (n : ℕ). (g : ℕ) × Own g (get_or (h ∷ d) n 0)) here (pick (omega (arith, own))) in
            (own_pick.0 ∷ rest.0, (inl (own, own_pick.1), rest.1))
        | inr other ↦ (h ∷ rest.0, (inr (other, (refl, omega (arith, leb-true h (o.bids (suc k)) p.0, bids (suc k) (omega arith) other))), rest.1))
      ]
