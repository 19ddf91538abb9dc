-- The left side: an entry of the table turned round is the greatest value of a choice of the first bidders.
use Rattle.std.specs.Prelude.{◌≡◌, ℕ, suc, ◌-◌, ◌≤◌, true, nat_le, IsTrue, List, [], ◌∷◌, length, replicate, ℤ, pos, ◌≤ℤ◌, refl}
use Rattle.std.proofs.Common.{sym, ◌∙◌, ap, arith}
use Rattle.std.proofs.lemmas.Bool.{and_parts, and_from, leb-true, le-leb, lt-leb, cond-true, cond-false}
use Rattle.std.proofs.lemmas.Int.{ints}
use Rattle.auction_model.specs.Package.{is_within, less, together}
use Rattle.auction_model.specs.Market.{sum_after}
use Rattle.auction_model.specs.Menu.{Menu, fits_after, is_known_after, packages_after}
use Rattle.auction_model.specs.Table.{IsEntry}
use Rattle.auction_model.proofs.BookMarket.{none-known, none-taken, together-comm}
use Rattle.auction_model.proofs.ChoiceLaws.{known-length}
use Rattle.auction_model.proofs.PackageLaws.{within-together}
use Rattle.value_table.specs.SideValues.{up_to}
use Rattle.value_table.specs.Turned.{in_order, worths_in_order}
use Rattle.value_table.proofs.SingleLaws.{none-sum}
use Rattle.value_table.proofs.TurnLaws.{onto, Parted, parted, sum-parts, known-parts, taken-parts, turned-length}

module _ (m : Menu) (counts : ℕ → ℕ → ℤ) (k : ℕ) (left : List ℕ) (inside : k ≤ m.bidders) (empty : (j : ℕ) → m.lots j 0 ≡ [])
    (none : (j : ℕ) → counts j 0 ≡ pos 0) where
  -- the bidders up to k have the bids of all
  near : (j : ℕ) → j ≤ k → (up_to m k).bids j ≡ m.bids j
  near j h = cond-true (nat_le j k) (m.bids j) 0 (le-leb j k h)

  -- the bidders after k have no bids, so they count nothing
  none-after : (j : ℕ) (back : List ℕ) → k ≤ j → IsTrue (is_known_after (up_to m k) j back) → sum_after counts j back ≡ pos 0
  none-after j [] h t = refl
  none-after j (i ∷ back) h t =
      let p = and_parts (nat_le i ((up_to m k).bids (suc j))) (is_known_after (up_to m k) (suc j) back) t in
      let few : (up_to m k).bids (suc j) ≡ 0 = cond-false (nat_le (suc j) k) (m.bids (suc j)) 0 (lt-leb (suc j) k (omega (arith, h))) in
      let zeroth : i ≡ 0 = omega (arith, few, leb-true i ((up_to m k).bids (suc j)) p.0) in
      let rest = none-after (suc j) back (omega (arith, h)) p.1 in
      let own : counts (suc j) i ≡ pos 0 = ap (counts (suc j)) zeroth ∙ none (suc j) in
      omega (arith, ints, own, rest)

  -- no bid for each bidder after k is known
  zeros-known : IsTrue (is_known_after (up_to m k) k (replicate (m.bidders - k) 0))
  zeros-known = none-known (up_to m k) k (m.bidders - k) (omega (arith, inside))

  -- a choice of the first k bidders, filled up by zeros
  filled-fits : (front : List ℕ) → length front ≡ k → IsTrue (fits_after (in_order true m) (m.bidders - k) left front)
      → IsTrue (fits_after (up_to m k) 0 left (onto front (replicate (m.bidders - k) 0)))
  filled-fits front count t =
      let zeros = replicate (m.bidders - k) 0 in
      let packages = packages_after (in_order true m) (m.bidders - k) front in
      let p = and_parts (is_known_after (in_order true m) (m.bidders - k) front) (is_within packages left) t in
      let known : IsTrue (is_known_after (up_to m k) 0 (onto front zeros)) = known-parts m (up_to m k).bids k inside near front zeros count
      ∙ and_from (is_known_after (in_order true m) (m.bidders - k) front) (is_known_after (up_to m k) k zeros) p.0 zeros-known in
      let taken : packages_after (up_to m k) 0 (onto front zeros) ≡ packages =
      taken-parts m (up_to m k).bids k inside near front zeros count ∙ ap (together packages) (none-taken (up_to m k) k (m.bidders - k) empty)
      ∙ together-comm packages [] in
      and_from (is_known_after (up_to m k) 0 (onto front zeros)) (is_within (packages_after (up_to m k) 0 (onto front zeros)) left) known
      (ap (λ q. is_within q left) taken ∙ p.1)

  -- and its sum
  filled-sum : (front : List ℕ) → length front ≡ k → sum_after counts 0 (onto front (replicate (m.bidders - k) 0)) ≡ sum_after
      (worths_in_order true m.bidders counts) (m.bidders - k) front
  filled-sum front count = omega (
    arith,
    ints,
    sum-parts m.bidders counts k front (replicate (m.bidders - k) 0) inside count,
    none-sum counts k (m.bidders - k) none,
  )

  -- the first k numbers of a choice that fits, turned round
  front-fits : (front back : List ℕ) → length front ≡ k → IsTrue (fits_after (up_to m k) 0 left (onto front back))
      → IsTrue (fits_after (in_order true m) (m.bidders - k) left front)
  front-fits front back count t =
      let packages = packages_after (in_order true m) (m.bidders - k) front in
      let others = packages_after (up_to m k) k back in
      let p = and_parts (is_known_after (up_to m k) 0 (onto front back)) (is_within (packages_after (up_to m k) 0 (onto front back)) left) t in
      let known = and_parts (is_known_after (in_order true m) (m.bidders - k) front) (is_known_after (up_to m k) k back)
      (sym (known-parts m (up_to m k).bids k inside near front back count) ∙ p.0) in
      let within = and_parts (is_within packages left) (is_within others (less left packages))
      (sym (within-together packages others left) ∙ ap (λ q. is_within q left) (sym (taken-parts m (up_to m k).bids k inside near front back count))
      ∙ p.1) in
      and_from (is_known_after (in_order true m) (m.bidders - k) front) (is_within packages left) known.0 within.0

  -- and their sum
  front-sum : (front back : List ℕ) → length front ≡ k → IsTrue (is_known_after (up_to m k) 0 (onto front back))
      → sum_after counts 0 (onto front back) ≡ sum_after (worths_in_order true m.bidders counts) (m.bidders - k) front
  front-sum front back count t =
      let known = and_parts (is_known_after (in_order true m) (m.bidders - k) front) (is_known_after (up_to m k) k back)
      (sym (known-parts m (up_to m k).bids k inside near front back count) ∙ t) in
      omega (arith, ints, sum-parts m.bidders counts k front back inside count, none-after k back (omega arith) known.1)

  -- no choice of the first k bidders counts more than the entry
  left-bound : (most : ℤ) → IsEntry (in_order true m) (worths_in_order true m.bidders counts) (m.bidders - k) left most → (c : List ℕ) → Parted c k
      → IsTrue (fits_after (up_to m k) 0 left c) → sum_after counts 0 c ≤ℤ most
  left-bound most e c p t =
      let whole : IsTrue (fits_after (up_to m k) 0 left (onto p.front p.back)) = ap (fits_after (up_to m k) 0 left) p.whole ∙ t in
      let known = and_parts (is_known_after (up_to m k) 0 (onto p.front p.back)) (is_within (packages_after (up_to m k) 0 (onto p.front p.back)) left) whole in
      let sum : sum_after counts 0 c ≡ sum_after (worths_in_order true m.bidders counts) (m.bidders - k) p.front =
      ap (sum_after counts 0) (sym p.whole) ∙ front-sum p.front p.back p.count known.0 in
      rw sum (e.bound p.front (front-fits p.front p.back p.count whole))

  -- an entry of the turned table is one of the bidders up to k
  pub left-entry : (most : ℤ) → IsEntry (in_order true m) (worths_in_order true m.bidders counts) (m.bidders - k) left most
      → IsEntry (up_to m k) counts 0 left most
  left-entry most e =
      let front = e.reached.0 in
      let known = and_parts (is_known_after (in_order true m) (m.bidders - k) front) (is_within (packages_after (in_order true m) (m.bidders - k) front) left)
      e.reached.1 in
      let count = turned-length m k front inside known.0 in
      record {
        reached = (onto front (replicate (m.bidders - k) 0), filled-fits front count e.reached.1, filled-sum front count ∙ e.reached.2);
        bound = λ c t.
            let own = and_parts (is_known_after (up_to m k) 0 c) (is_within (packages_after (up_to m k) 0 c) left) t in
            left-bound most e c (parted c k (omega (arith, inside, known-length (up_to m k) 0 c own.0))) t;
      }

  -- an entry of the bidders up to k is one of the turned table
  pub turned-entry : (most : ℤ) → IsEntry (up_to m k) counts 0 left most → IsEntry (in_order true m) (worths_in_order true m.bidders counts)
      (m.bidders - k) left most
  turned-entry most e =
      let c = e.reached.0 in
      let all = and_parts (is_known_after (up_to m k) 0 c) (is_within (packages_after (up_to m k) 0 c) left) e.reached.1 in
      let p = parted c k (omega (arith, inside, known-length (up_to m k) 0 c all.0)) in
      let whole : IsTrue (fits_after (up_to m k) 0 left (onto p.front p.back)) = ap (fits_after (up_to m k) 0 left) p.whole ∙ e.reached.1 in
      let known = and_parts (is_known_after (up_to m k) 0 (onto p.front p.back)) (is_within (packages_after (up_to m k) 0 (onto p.front p.back)) left) whole in
      record {
        reached = (
          p.front,
          front-fits p.front p.back p.count whole,
          sym (front-sum p.front p.back p.count known.0) ∙ ap (sum_after counts 0) p.whole
              ∙ e.reached.2,
        );
        bound = λ front t.
            let own = and_parts (is_known_after (in_order true m) (m.bidders - k) front)
            (is_within (packages_after (in_order true m) (m.bidders - k) front) left) t in
            let count = turned-length m k front inside own.0 in
            rw (← filled-sum front count) (e.bound (onto front (replicate (m.bidders - k) 0)) (filled-fits front count t));
      }
