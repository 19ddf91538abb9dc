-- A choice with a bid of one bidder: the bid, and a choice of the bidders before it and one of those after it beside the package.
use Rattle.std.specs.Prelude.{◌≡◌, ℕ, suc, ◌+◌, ◌-◌, ◌≤◌, ◌<◌, true, ◌&&◌, nat_le, IsTrue, List, [], ◌∷◌, length, get_or, ℤ, ◌+ℤ◌, ◌-ℤ◌, ◌<ℤ◌}
use Rattle.std.proofs.Common.{sym, ◌∙◌, ap, subst, arith}
use Rattle.std.proofs.lemmas.Bool.{and_from, and_parts}
use Rattle.std.proofs.lemmas.Int.{ints}
use Rattle.auction_model.specs.Market.{sum_after}
use Rattle.auction_model.specs.Menu.{Menu, fits_after, is_known_after, packages_after}
use Rattle.auction_model.specs.Package.{is_within, less, together}
use Rattle.auction_model.specs.Place.{left_at, place_of, states_of}
use Rattle.auction_model.specs.Table.{IsLine}
use Rattle.auction_model.proofs.ChoiceLaws.{known-length}
use Rattle.auction_model.proofs.PackageLaws.{within-together}
use Rattle.auction_model.proofs.PlaceLaws.{left_at-less, left_at-whole, place-less_below, states-positive}
use Rattle.value_table.specs.Turned.{in_order, worths_in_order}
use Rattle.value_table.proofs.PairLaws.{left_at-other, within-twice}
use Rattle.value_table.proofs.TurnLaws.{Parted, onto, parted, parts-turned, sum-turned}
use Rattle.review.specs.Reviewed.{AreBelow}

-- the number after the first ones, which are turned round
number-behind : (front : List ℕ) (i : ℕ) (back : List ℕ) (n : ℕ) → get_or (onto front (i ∷ back)) (length front + n) 0 ≡ get_or (i ∷ back) n 0
number-behind [] i back n = ap (λ (k : ℕ). get_or (i ∷ back) k 0) (omega arith)
number-behind (h ∷ front) i back n =
    let next : length (h ∷ front) + n ≡ length front + suc n = omega arith in
    ap (λ (k : ℕ). get_or (onto front (h ∷ (i ∷ back))) k 0) next ∙ number-behind front h (i ∷ back) (suc n)

module _ (m : Menu) (counts : ℕ → ℕ → ℤ) (supply : List ℕ) (q i : ℕ) (limit : ℤ) (inside : suc q ≤ m.bidders) (before after : List ℤ)
    (lefts : IsLine (in_order true m) (worths_in_order true m.bidders counts) supply (m.bidders - q) before) (rights : IsLine m counts supply (suc q) after)
    (below : AreBelow supply (m.lots (suc q) i) before after (limit -ℤ counts (suc q) i)) where
  -- both sides are together below what is left of the limit
  beside-below : (front back : List ℕ) → length front ≡ q → IsTrue (fits_after m 0 supply (onto front (i ∷ back)))
      → sum_after counts 0 (onto front (i ∷ back)) <ℤ limit
  beside-below front back count t =
      let S = states_of supply in
      let L = m.lots (suc q) i in
      let c = onto front (i ∷ back) in
      let fewer : length front ≤ m.bidders = omega (arith, count, inside) in
      let turned = in_order true m in
      let n = m.bidders in
      let P = packages_after turned (n - q) front in
      let Q = packages_after m (suc q) back in
      let p = and_parts (is_known_after m 0 c) (is_within (packages_after m 0 c) supply) t in
      let known_both : is_known_after m 0 c ≡ is_known_after turned (n - q) front && is_known_after m q (i ∷ back) =
      subst (λ (k : ℕ). is_known_after m 0 c ≡ is_known_after turned (n - k) front && is_known_after m k (i ∷ back)) count
      (parts-turned m front (i ∷ back) fewer).known in
      let taken_both : packages_after m 0 c ≡ together P (together L Q) =
      subst (λ (k : ℕ). packages_after m 0 c ≡ together (packages_after turned (n - k) front) (packages_after m k (i ∷ back))) count
      (parts-turned m front (i ∷ back) fewer).taken in
      let sums : sum_after counts 0 c ≡ sum_after (worths_in_order true n counts) (n - q) front +ℤ (counts (suc q) i +ℤ sum_after counts (suc q) back) =
      subst (λ (k : ℕ). sum_after counts 0 c ≡ sum_after (worths_in_order true n counts) (n - k) front +ℤ sum_after counts k (i ∷ back)) count
      (sum-turned n counts front (i ∷ back) fewer) in
      let known = and_parts (is_known_after turned (n - q) front) (is_known_after m q (i ∷ back)) (sym known_both ∙ p.0) in
      let rest = and_parts (nat_le i (m.bids (suc q))) (is_known_after m (suc q) back) known.1 in
      let within = and_parts (is_within P supply) (is_within (together L Q) (less supply P))
      (sym (within-together P (together L Q) supply) ∙ ap (λ (l : List ℕ). is_within l supply) (sym taken_both) ∙ p.1) in
      let left = less supply P in
      let own = and_parts (is_within L left) (is_within Q (less left L)) (sym (within-together L Q left) ∙ within.1) in
      let r = place_of supply left in
      let last : S - 1 < S = omega (arith, states-positive supply) in
      let low : r < S = rw left_at-whole at (place-less_below supply P (S - 1) last) in
      let left_is : left_at supply r ≡ left = rw left_at-whole at (left_at-less supply P (S - 1) last) in
      let fits : IsTrue (is_within L (left_at supply r)) = ap (is_within L) left_is ∙ own.0 in
      let far : S - 1 - r < S = omega (arith, last) in
      let twice : left_at supply (S - 1 - r) ≡ less supply left = left_at-other supply r low ∙ ap (less supply) left_is in
      let front_fits : IsTrue (fits_after turned (n - q) (left_at supply (S - 1 - r)) front) =
      and_from (is_known_after turned (n - q) front) (is_within P (left_at supply (S - 1 - r))) known.0
      (ap (is_within P) twice ∙ within-twice P supply within.0) in
      let s = place_of supply (less (left_at supply r) L) in
      let s_low : s < S = place-less_below supply L r low in
      let s_is : left_at supply s ≡ less left L = left_at-less supply L r low ∙ ap (λ (l : List ℕ). less l L) left_is in
      let back_fits : IsTrue (fits_after m (suc q) (left_at supply s) back) = and_from (is_known_after m (suc q) back) (is_within Q (left_at supply s)) rest.1
      (ap (is_within Q) s_is ∙ own.1) in
      omega (arith, ints, sums, below r low fits, (lefts.exact (S - 1 - r) far).bound front front_fits, (rights.exact s s_low).bound back back_fits)

  parted-below : (d : List ℕ) → Parted d q → get_or d q 0 ≡ i → IsTrue (fits_after m 0 supply d) → sum_after counts 0 d <ℤ limit
  parted-below d p is t = with-back d p.front p.back p.whole p.count is t
    where
      with-back : (d front back : List ℕ) → onto front back ≡ d → length front ≡ q → get_or d q 0 ≡ i → IsTrue (fits_after m 0 supply d)
          → sum_after counts 0 d <ℤ limit
      with-back d front [] whole count is t =
          let known = and_parts (is_known_after m 0 d) (is_within (packages_after m 0 d) supply) t in
          let on : IsTrue (is_known_after m 0 (onto front [])) = subst (λ (c : List ℕ). IsTrue (is_known_after m 0 c)) (sym whole) known.0 in
          let parts : IsTrue (is_known_after (in_order true m) (m.bidders - length front) front && is_known_after m (length front) []) =
          sym (parts-turned m front [] (omega (arith, count, inside))).known ∙ on in
          absurd (omega (
            arith,
            inside,
            count,
            known-length m (length front) [] (and_parts (is_known_after (in_order true m) (m.bidders - length front) front)
                (is_known_after m (length front) []) parts).1,
          ))
      with-back d front (h ∷ back) whole count is t =
          let at : length front + 0 ≡ q = omega (arith, count) in
          let own : h ≡ i = sym (number-behind front h back 0) ∙ ap (λ (k : ℕ). get_or (onto front (h ∷ back)) k 0) at ∙ ap
          (λ (c : List ℕ). get_or c q 0) whole ∙ is in
          let c_is : onto front (i ∷ back) ≡ d = ap (λ (k : ℕ). onto front (k ∷ back)) (sym own) ∙ whole in
          subst (λ (c : List ℕ). sum_after counts 0 c <ℤ limit) c_is (beside-below front back count
          (subst (λ (c : List ℕ). IsTrue (fits_after m 0 supply c)) (sym c_is) t))

  -- so each choice with the bid is worth less than the limit
  pub below-limit : (d : List ℕ) → get_or d q 0 ≡ i → IsTrue (fits_after m 0 supply d) → sum_after counts 0 d <ℤ limit
  below-limit d is t =
      let known = and_parts (is_known_after m 0 d) (is_within (packages_after m 0 d) supply) t in
      parted-below d (parted d q (omega (arith, inside, known-length m 0 d known.0))) is t
