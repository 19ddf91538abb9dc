-- A table that obeys the Bellman rules bounds every choice that fits, and the tests on earlier bids make a choice the first of the greatest.
use Rattle.std.specs.Prelude.{IsTrue, List, [], nat_le, nat_lt, pos, refl, slice_index_or, suc, zero, ℕ, ℤ, ◌&&◌, ◌+◌, ◌-ℤ◌, ◌<ℤ◌, ◌<◌, ◌==◌, ◌∷◌}
use Rattle.std.specs.Prelude.{◌≡◌, ◌≤ℤ◌, ◌≤◌}
use Rattle.std.proofs.Common.{inl, inr, sym, ◌∙◌, ap, subst, arith}
use Rattle.std.proofs.lemmas.Bool.{false≢true, and_parts, or_cases, leb-true, ltb-true, eqb-true}
use Rattle.std.proofs.lemmas.Int.{ints}
use Rattle.auction_model.specs.Package.{is_within, less}
use Rattle.auction_model.specs.Place.{left_at, place_of, states_of}
use Rattle.auction_model.specs.Market.{is_earlier, is_number_before, number_of, sum_after}
use Rattle.auction_model.specs.Menu.{Menu, fits_after}
use Rattle.auction_model.specs.Table.{entry_at}
use Rattle.auction_model.proofs.PackageLaws.{less-empty}
use Rattle.auction_model.proofs.MenuLaws.{fits-cons, fits-past_end}
use Rattle.auction_model.proofs.PlaceLaws.{left_at-less, place-less_below}
use Rattle.cert_soundness.specs.Tests.{Obeys, NoEarlier, left_after, worth_before}

-- the worth of a bid, and 0 for none
abbrev pub counted : (ℕ → ℕ → ℤ) → ℕ → ℕ → ℤ
counted worth j zero = pos 0
counted worth j (suc i) = worth j (suc i)

-- what a choice that fits says of its first number and of the rest
pub record First (m : Menu) (k : ℕ) (left : List ℕ) (i : ℕ) (c : List ℕ) : Type 0 where
  pub known : i ≤ m.bids (suc k)
  pub own : IsTrue (is_within (m.lots (suc k) i) left)
  pub rest : IsTrue (fits_after m (suc k) (less left (m.lots (suc k) i)) c)

-- if a choice fits, its first number is known, that bid is within what is left, and the rest fits after it
pub first_of_fitting : (m : Menu) (k : ℕ) (left : List ℕ) (i : ℕ) (c : List ℕ) → IsTrue (fits_after m k left (i ∷ c)) → First m k left i c
first_of_fitting m k left i c t =
    let own = is_within (m.lots (suc k) i) left in
    let rest = fits_after m (suc k) (less left (m.lots (suc k) i)) c in
    let p = and_parts (nat_le i (m.bids (suc k))) (own && rest) (sym (fits-cons m k left i c) ∙ t) in
    let q = and_parts own rest p.1 in
    record { known = leb-true i (m.bids (suc k)) p.0; own = q.0; rest = q.1 }

-- if a choice that fits has one more number, there is a bidder for it
pub inside : (m : Menu) (k : ℕ) (left : List ℕ) (i : ℕ) (c : List ℕ) → k ≤ m.bidders → IsTrue (fits_after m k left (i ∷ c)) → k < m.bidders
inside m k left i c le t = strict k m.bidders le (λ e. false≢true (sym (fits-past_end m left i c) ∙ subst
    (λ (n : ℕ). IsTrue (fits_after m n left (i ∷ c))) e t))
  where
    strict : (a b : ℕ) → a ≤ b → (a ≡ b → ⊥) → a < b
    strict a b h n = omega (arith, n)

at_end : (m : Menu) (k : ℕ) (left : List ℕ) → IsTrue (fits_after m k left []) → k ≡ m.bidders
at_end m k left t = eqb-true k m.bidders (and_parts (k == m.bidders) (is_within [] left) t).0

-- d is what the choice gives to the bidders after k
pub record Ends (choice : List ℕ) (k : ℕ) (d : List ℕ) : Type 0 where
  pub same : (n : ℕ) → slice_index_or d n 0 ≡ slice_index_or choice (k + n) 0

module _ (m : Menu) (worth : ℕ → ℕ → ℤ) (supply : List ℕ) (table : List (List ℤ)) (empty : (j : ℕ) → m.lots j 0 ≡ []) (obeys : Obeys m worth supply table) where
  -- a choice that fits is worth at most the table's entry for what is left
  pub bounded : (c : List ℕ) (k s : ℕ) → k ≤ m.bidders → s < states_of supply → IsTrue (fits_after m k (left_at supply s) c)
      → sum_after (counted worth) k c ≤ℤ entry_at table k s
  bounded [] k s le lt t = (obeys k s le lt).last (at_end m k (left_at supply s) t)
  bounded (zero ∷ c) k s le lt t =
      let k_in = inside m k (left_at supply s) zero c le t in
      let f = first_of_fitting m k (left_at supply s) zero c t in
      let whole : less (left_at supply s) (m.lots (suc k) zero) ≡ left_at supply s = ap (less (left_at supply s)) (empty (suc k))
      ∙ less-empty (left_at supply s) in
      let rest : sum_after (counted worth) (suc k) c ≤ℤ entry_at table (suc k) s = bounded c (suc k) s (omega (arith, k_in)) lt
      (subst (λ (l : List ℕ). IsTrue (fits_after m (suc k) l c)) whole f.rest) in
      let step = (obeys k s le lt).none k_in in
      omega (arith, ints, rest, step)
  bounded (suc i ∷ c) k s le lt t =
      let k_in = inside m k (left_at supply s) (suc i) c le t in
      let f = first_of_fitting m k (left_at supply s) (suc i) c t in
      let q = place_of supply (less (left_at supply s) (m.lots (suc k) (suc i))) in
      let rest : sum_after (counted worth) (suc k) c ≤ℤ entry_at table (suc k) q = bounded c (suc k) q (omega (arith, k_in))
      (place-less_below supply (m.lots (suc k) (suc i)) s lt) (subst (λ (l : List ℕ). IsTrue (fits_after m (suc k) l c))
      (sym (left_at-less supply (m.lots (suc k) (suc i)) s lt)) f.rest) in
      let step = (obeys k s le lt).bid k_in (suc i) (omega arith) f.known f.own in
      omega (arith, ints, rest, step)

  ends_more : (choice : List ℕ) (k j : ℕ) (d : List ℕ) → Ends choice k (j ∷ d) → Ends choice (suc k) d
  ends_more choice k j d e = record { same = λ n. e.same (suc n) ∙ ap (λ (x : ℕ). slice_index_or choice x 0) (omega arith) }

  head_of : (choice : List ℕ) (k j : ℕ) (d : List ℕ) → Ends choice k (j ∷ d) → j ≡ number_of choice (suc k)
  head_of choice k j d e = e.same 0 ∙ ap (λ (x : ℕ). slice_index_or choice x 0) (omega arith)

  positive : (i j : ℕ) → IsTrue (is_number_before i j) → 0 < i
  positive i j t = ltb-true 0 i (and_parts (nat_lt 0 i) _ t).0

  counted_at : (j i : ℕ) → 0 < i → counted worth j i ≡ worth j i
  counted_at j zero lt = absurd (omega (arith, lt))
  counted_at j (suc i) lt = refl

  module _ (choice : List ℕ) (value : ℤ) (none_worth : (j : ℕ) → worth j 0 ≡ pos 0)
      (tested : (k : ℕ) → k < m.bidders → NoEarlier m worth supply table choice value k) where
    counted_any : (j i : ℕ) → counted worth j i ≡ worth j i
    counted_any j zero = sym (none_worth j)
    counted_any j (suc i) = refl

    -- the first difference is here
    differs : (i : ℕ) (c : List ℕ) (k s : ℕ) → k < m.bidders → s < states_of supply → left_at supply s ≡ left_after m supply choice k
        → First m k (left_at supply s) i c
        → IsTrue (is_number_before i (number_of choice (suc k))) → sum_after (counted worth) k (i ∷ c) <ℤ (value -ℤ worth_before worth choice k)
    differs i c k s k_in lt here f before =
        let q = place_of supply (less (left_at supply s) (m.lots (suc k) i)) in
        let rest : sum_after (counted worth) (suc k) c ≤ℤ entry_at table (suc k) q = bounded c (suc k) q (omega (arith, k_in))
        (place-less_below supply (m.lots (suc k) i) s lt) (subst (λ (l : List ℕ). IsTrue (fits_after m (suc k) l c))
        (sym (left_at-less supply (m.lots (suc k) i) s lt)) f.rest) in
        let t = tested k k_in i before f.known (subst (λ (l : List ℕ). IsTrue (is_within (m.lots (suc k) i) l)) here f.own) in
        let place : entry_at table (suc k) q ≡ entry_at table (suc k) (place_of supply (less (left_after m supply choice k) (m.lots (suc k) i))) =
        ap (λ (l : List ℕ). entry_at table (suc k) (place_of supply (less l (m.lots (suc k) i)))) here in
        let own = counted_any (suc k) i in
        omega (arith, ints, rest, t, place, own)

    -- a choice that fits and is earlier is worth less than what the value leaves for the bidders after k
    pub earlier_is_less : (c d : List ℕ) (k s : ℕ) → Ends choice k d → k ≤ m.bidders → s < states_of supply → left_at supply s ≡ left_after m supply choice k
        → IsTrue (fits_after m k (left_at supply s) c) → IsTrue (is_earlier c d) → sum_after (counted worth) k c <ℤ (value -ℤ worth_before worth choice k)
    earlier_is_less [] d k s ends le lt here t before = absurd (false≢true before)
    earlier_is_less (i ∷ c) [] k s ends le lt here t before = absurd (false≢true before)
    earlier_is_less (i ∷ c) (j ∷ d) k s ends le lt here t before =
        let k_in = inside m k (left_at supply s) i c le t in
        let f = first_of_fitting m k (left_at supply s) i c t in
        let number = head_of choice k j d ends in
        elim (or_cases (is_number_before i j) ((i == j) && is_earlier c d) before) [
          | inl first ↦ differs i c k s k_in lt here f (subst (λ (n : ℕ). IsTrue (is_number_before i n)) number first)
          | inr later ↦ (
              let both = and_parts (i == j) (is_earlier c d) later in
              let same : i ≡ number_of choice (suc k) = eqb-true i j both.0 ∙ number in
              let q = place_of supply (less (left_at supply s) (m.lots (suc k) i)) in
              let there : left_at supply q ≡ left_after m supply choice (suc k) = left_at-less supply (m.lots (suc k) i) s lt
              ∙ ap (λ (l : List ℕ). less l (m.lots (suc k) i)) here ∙ ap (λ (n : ℕ). less (left_after m supply choice k) (m.lots (suc k) n)) same in
              let rest = earlier_is_less c d (suc k) q (ends_more choice k j d ends) (omega (arith, k_in))
              (place-less_below supply (m.lots (suc k) i) s lt) there (subst (λ (l : List ℕ). IsTrue (fits_after m (suc k) l c))
              (sym (left_at-less supply (m.lots (suc k) i) s lt)) f.rest) both.1 in
              let own : counted worth (suc k) i ≡ worth (suc k) (number_of choice (suc k)) = counted_any (suc k) i ∙ ap (worth (suc k)) same in
              omega (arith, ints, rest, own))
        ]
