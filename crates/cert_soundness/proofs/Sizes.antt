-- What the tests that hold say of the size of numbers, for the tests after them; and exact tables obey the rules.
use Rattle.std.specs.Prelude.{IsTrue, List, [], length, nat_le, not, pos, refl, slice_index_or, suc, zero, ℕ, ℤ, ◌*ℤ◌, ◌*◌, ◌+ℤ◌, ◌+◌, ◌-◌, ◌<◌, ◌∷◌}
use Rattle.std.specs.Prelude.{◌≡◌, ◌≤ℤ◌, ◌≤◌}
use Rattle.std.proofs.Common.{inl, inr, sym, ◌∙◌, ap, subst, arith, set}
use Rattle.std.proofs.lemmas.Bool.{and_parts, and_from, le-leb, cases_Bool}
use Rattle.std.proofs.lemmas.Int.{ints}
use Rattle.auction_model.specs.Package.{is_within, less}
use Rattle.auction_model.specs.Place.{left_at, place_of, states_of}
use Rattle.auction_model.specs.Market.{number_of, sum_after, uses}
use Rattle.auction_model.specs.Menu.{Menu, fits_after, is_known_after, packages_after}
use Rattle.auction_model.specs.Table.{IsEntry, IsExactTable, entry_at}
use Rattle.auction_model.specs.Lowered.{of_bidder}
use Rattle.auction_model.specs.Book.{Book, bids_of, lots_of, market_of, menu_of, net_of}
use Rattle.auction_model.specs.Prices.{everyone, sum_over}
use Rattle.auction_model.proofs.PackageLaws.{less-empty}
use Rattle.auction_model.proofs.MenuLaws.{fits-at_end, fits-cons}
use Rattle.auction_model.proofs.PlaceLaws.{left_at-less, left_at-whole, place-less_below}
use Rattle.auction_model.proofs.BookMarket.{fewer-known, fewer-taken}
use Rattle.cert_grammar.specs.Certificate.{CertValue, part_of}
use Rattle.cert_soundness.specs.Tests.{Obeys, bidders_of, states, C2, C3, C4, C5, won, vickrey_of}
use Rattle.cert_soundness.proofs.Winning.{obeys, full-below, allowed, value_is, most, part_most, unused_to, lost-nothing}
use Rattle.wide_num.specs.Sums.{total}
use Rattle.wide_num.proofs.Sums.{total-scale}
use Rattle.projection_laws.proofs.Sums.{total-le}
use Rattle.core_laws.proofs.Sums.{over-is, choice-is}

module _ (m : Menu) (worth : ℕ → ℕ → ℤ) (supply : List ℕ) (table : List (List ℤ)) (rules : Obeys m worth supply table) where
  -- no entry of a table that obeys the rules is below 0
  pub entry-least : (d k s : ℕ) → k + d ≡ m.bidders → s < states_of supply → pos 0 ≤ℤ entry_at table k s
  entry-least zero k s e lt = (rules k s (omega (arith, e)) lt).last (omega (arith, e))
  entry-least (suc d) k s e lt =
      let rest = entry-least d (suc k) s (omega (arith, e)) lt in
      let step = (rules k s (omega (arith, e)) lt).none (omega (arith, e)) in
      omega (arith, ints, rest, step)

  -- nor above that of line 0
  pub entry-most : (k s : ℕ) → k ≤ m.bidders → s < states_of supply → entry_at table k s ≤ℤ entry_at table 0 s
  entry-most zero s le lt = omega (arith, ints)
  entry-most (suc k) s le lt =
      let rest = entry-most k s (omega (arith, le)) lt in
      let step = (rules k s (omega (arith, le)) lt).none (omega (arith, le)) in
      omega (arith, ints, rest, step)

  -- no bid that fits the supply is worth more than line 0 has for it
  pub worth-most : (k i : ℕ) → k < m.bidders → 0 < i → i ≤ m.bids (suc k) → IsTrue (is_within (m.lots (suc k) i) supply)
      → worth (suc k) i ≤ℤ entry_at table 0 (states_of supply - 1)
  worth-most k i lt some known fits =
      let s = states_of supply - 1 in
      let below = full-below supply in
      let q = place_of supply (less (left_at supply s) (m.lots (suc k) i)) in
      let in_place = place-less_below supply (m.lots (suc k) i) s below in
      let step = (rules k s (omega (arith, lt)) below).bid lt i some known (subst (λ (l : List ℕ). IsTrue (is_within (m.lots (suc k) i) l))
      (sym (left_at-whole supply)) fits) in
      let rest = entry-least (m.bidders - suc k) (suc k) q (omega (arith, lt)) in_place in
      let top = entry-most k s (omega (arith, lt)) below in
      omega (arith, ints, step, rest, top)

-- an exact table obeys the rules
module _ (m : Menu) (counts : ℕ → ℕ → ℤ) (supply : List ℕ) (table : List (List ℤ)) (none_counts : (j : ℕ) → counts j 0 ≡ pos 0)
    (empty : (j : ℕ) → m.lots j 0 ≡ []) (exact : IsExactTable m counts supply table) where
  entry : (k s : ℕ) → k ≤ m.bidders → s < states_of supply → IsEntry m counts k (left_at supply s) (entry_at table k s)
  entry k s le lt = (exact.exact k le).exact s lt

  -- a bid, or none, with the best choice of the bidders after
  with_bid : (k s q i : ℕ) → k < m.bidders → s < states_of supply → q < states_of supply → i ≤ m.bids (suc k)
      → IsTrue (is_within (m.lots (suc k) i) (left_at supply s)) → left_at supply q ≡ less (left_at supply s) (m.lots (suc k) i)
      → (counts (suc k) i +ℤ entry_at table (suc k) q) ≤ℤ entry_at table k s
  with_bid k s q i k_in lt lt_q known own there =
      let rest = (entry (suc k) q (omega (arith, k_in)) lt_q).reached in
      let fits : IsTrue (fits_after m k (left_at supply s) (i ∷ rest.0)) =
      fits-cons m k (left_at supply s) i rest.0
      ∙ and_from (nat_le i (m.bids (suc k))) _ (le-leb i (m.bids (suc k)) known)
      (and_from (is_within (m.lots (suc k) i) (left_at supply s)) _ own (subst (λ (l : List ℕ). IsTrue (fits_after m (suc k) l rest.0)) there rest.1)) in
      let b = (entry k s (omega (arith, k_in)) lt).bound (i ∷ rest.0) fits in
      omega (arith, ints, b, rest.2)

  -- each entry of an exact table is at least what the rules ask of it
  pub exact_obeys : Obeys m counts supply table
  exact_obeys k s le lt = record {
    last = λ e. last k e (entry k s le lt);
    none = λ k_in.
        let whole : left_at supply s ≡ less (left_at supply s) (m.lots (suc k) 0) =
        sym (ap (less (left_at supply s)) (empty (suc k)) ∙ less-empty (left_at supply s)) in
        let b = with_bid k s s 0 k_in lt lt (omega arith) (subst (λ (l : List ℕ). IsTrue (is_within l (left_at supply s))) (sym (empty (suc k))) refl) whole in
        let z = none_counts (suc k) in
        omega (arith, ints, b, z);
    bid = λ k_in i some known fits. with_bid k s (place_of supply (less (left_at supply s) (m.lots (suc k) i))) i k_in lt
        (place-less_below supply (m.lots (suc k) i) s lt) known fits (left_at-less supply (m.lots (suc k) i) s lt);
  }
    where
      last : (k : ℕ) → k ≡ m.bidders → IsEntry m counts k (left_at supply s) (entry_at table k s) → pos 0 ≤ℤ entry_at table k s
      last k e is = is.bound [] (subst (λ (n : ℕ). IsTrue (fits_after m n (left_at supply s) [])) (sym e) (fits-at_end m (left_at supply s)))

set_same : (c : List ℕ) (i : ℕ) → i < length c → slice_index_or (set c i 0) i 0 ≡ 0
set_same [] i lt = absurd (omega arith)
set_same (x ∷ c) zero lt = refl
set_same (x ∷ c) (suc i) lt = set_same c i (omega arith)

fewer-sum : (worth : ℕ → ℕ → ℤ) (k : ℕ) (c : List ℕ) (i : ℕ) → i < length c → ((j : ℕ) → worth j 0 ≡ pos 0)
    → sum_after worth k (set c i 0) +ℤ worth (suc (k + i)) (slice_index_or c i 0) ≡ sum_after worth k c
fewer-sum worth k [] i lt none = absurd (omega arith)
fewer-sum worth k (x ∷ c) zero lt none =
    let z = none (suc k) in
    let e : worth (suc (k + 0)) x ≡ worth (suc k) x = ap (λ (y : ℕ). worth (suc y) x) (omega arith) in
    omega (arith, ints, z, e)
fewer-sum worth k (x ∷ c) (suc i) lt none =
    let r = fewer-sum worth (suc k) c i (omega arith) none in
    let e : worth (suc (k + suc i)) (slice_index_or c i 0) ≡ worth (suc (suc k + i)) (slice_index_or c i 0) =
    ap (λ (y : ℕ). worth (suc y) (slice_index_or c i 0)) (omega arith) in
    omega (arith, ints, r, e)

module _ (book : Book) (c : CertValue) (length_is : length c.choice ≡ bidders_of book) (h2 : (place : ℕ) → C2 book c place)
    (h3 : (place : ℕ) → C3 book c place) where
  -- after C3 no net amount of a bid is above the value
  pub net-most : (k i : ℕ) → k < bidders_of book → 0 < i → i ≤ length (bids_of book (suc k)) → IsTrue (is_within (lots_of book (suc k) i) book.supply)
      → net_of book (suc k) i ≤ℤ c.value
  net-most k i lt some known fits =
      let w = worth-most (menu_of book) (net_of book) book.supply c.table (obeys book c length_is h2 h3) k i lt some known fits in
      let top = (h3 ((bidders_of book + 1) * states book)).top refl in
      omega (arith, ints, w, top)

  -- the winners' net amounts sum to the value
  pub won-sum : sum_over everyone (won book c) (bidders_of book) ≡ c.value
  won-sum =
      over-is everyone (won book c) (bidders_of book)
      ∙ sym (choice-is (net_of book) c.choice ∙ ap (λ n. total n (λ j. won book c (suc j))) length_is)
      ∙ value_is book c length_is h2 h3

  -- after C5 the payments sum to at most den times the value
  pub paid-most : ((place : ℕ) → C5 book c place) → sum_over everyone (of_bidder c.pay) (bidders_of book) ≤ℤ (c.den *ℤ c.value)
  paid-most h5 =
      let n = bidders_of book in
      let each : total n (λ j. of_bidder c.pay (suc j)) ≤ℤ total n (λ j. c.den *ℤ won book c (suc j)) =
      total-le n (λ j. of_bidder c.pay (suc j)) (λ j. c.den *ℤ won book c (suc j)) (λ j lt. one (suc j) (omega arith) (omega (arith, lt))) in
      let a = over-is everyone (of_bidder c.pay) n in
      let b = over-is everyone (won book c) n in
      let s = total-scale n c.den (λ j. won book c (suc j)) in
      let v : c.den *ℤ total n (λ j. won book c (suc j)) ≡ c.den *ℤ c.value = ap (λ (z : ℤ). c.den *ℤ z) (sym b ∙ won-sum) in
      omega (arith, ints, each, a, s, v)
    where
      one : (j : ℕ) → 0 < j → j ≤ bidders_of book → of_bidder c.pay j ≤ℤ (c.den *ℤ won book c j)
      one j some le =
          elim (cases_Bool (uses c.choice j)) [
            | inl wins ↦ ((h5 j).winner some le wins).1
            | inr loses ↦ (
                let p = (h5 j).loser some le loses in
                let z : c.den *ℤ won book c j ≡ c.den *ℤ pos 0 = ap (λ (x : ℤ). c.den *ℤ x) (lost-nothing book c j loses) in
                omega (arith, ints, p, z))
          ]

  -- after C4 a Vickrey price is at most the bid
  pub vickrey-most : ((place : ℕ) → C4 book c place) → (j : ℕ) → 0 < j → j ≤ bidders_of book → IsTrue (uses c.choice j) → vickrey_of book c j ≤ℤ won book c j
  vickrey-most h4 j some le wins =
      let part = (h4 j).part some le wins in
      let m = most book c length_is h2 h3 (part_of c.withouts j).choice part.allowed in
      let v = value_is book c length_is h2 h3 in
      omega (arith, ints, m, v)

  -- nor below 0: the choice without the winner's bid is one that does not use it
  pub vickrey-least : ((place : ℕ) → C4 book c place) → (j : ℕ) → 0 < j → j ≤ bidders_of book → IsTrue (uses c.choice j) → pos 0 ≤ℤ vickrey_of book c j
  vickrey-least h4 j some le wins =
      let part = (h4 j).part some le wins in
      let other = set c.choice (j - 1) 0 in
      let inside : j - 1 < length c.choice = omega (arith, some, le, length_is) in
      let back : suc (j - 1) ≡ j = omega (arith, some) in
      let p = and_parts (is_known_after (menu_of book) 0 c.choice) (is_within (packages_after (menu_of book) 0 c.choice) book.supply)
      (allowed book c length_is h2 h3) in
      let fits : IsTrue ((market_of book).allowed other) =
      and_from (is_known_after (menu_of book) 0 other) (is_within (packages_after (menu_of book) 0 other) book.supply)
      (fewer-known (menu_of book) 0 c.choice (j - 1) p.0) (fewer-taken (menu_of book) 0 c.choice (j - 1) book.supply (λ i. refl) p.1) in
      let gone : number_of other j ≡ 0 = set_same c.choice (j - 1) inside in
      let m = part_most book c length_is h2 h3 j some part other (and_from ((market_of book).allowed other) (not (uses other j)) fits
      (unused_to other j gone)) in
      let s = fewer-sum (net_of book) 0 c.choice (j - 1) inside (λ i. refl) in
      let w : net_of book (suc (0 + (j - 1))) (slice_index_or c.choice (j - 1) 0) ≡ won book c j = ap
      (λ (x : ℕ). net_of book x (slice_index_or c.choice (j - 1) 0)) (omega (arith, some)) in
      let v = value_is book c length_is h2 h3 in
      omega (arith, ints, m, s, w, v)
