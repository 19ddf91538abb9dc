-- A line of the bidders after k doesn't depend on the bidders up to k.
use Rattle.std.specs.Prelude.{◌≡◌, ℕ, suc, ◌≤◌, ◌<◌, nat_le, ◌==◌, IsTrue, List, [], ◌∷◌, get_or, ℤ, pos, ◌+ℤ◌, refl}
use Rattle.std.proofs.Common.{sym, ◌∙◌, ap, subst, arith}
use Rattle.std.proofs.lemmas.Bool.{and_from, and_parts}
use Rattle.auction_model.specs.Market.{sum_after}
use Rattle.auction_model.specs.Menu.{Menu, fits_after, is_known_after, packages_after}
use Rattle.auction_model.specs.Package.{is_within, together}
use Rattle.auction_model.specs.Place.{left_at}
use Rattle.auction_model.specs.Table.{IsEntry, IsLine}
use Rattle.auction_model.proofs.ChoiceLaws.{known-length}

-- both have the same bids, with the same worths, of the bidders after k
pub record AreSameAfter (m o : Menu) (counts others : ℕ → ℕ → ℤ) (k : ℕ) : Type 0 where
  pub bidders : m.bidders ≡ o.bidders
  pub bids : (i : ℕ) → k ≤ i → i < m.bidders → m.bids (suc i) ≡ o.bids (suc i)
  pub lots : (i h : ℕ) → k ≤ i → i < m.bidders → m.lots (suc i) h ≡ o.lots (suc i) h
  pub worths : (i h : ℕ) → k ≤ i → i < m.bidders → counts (suc i) h ≡ others (suc i) h

same-back : (m o : Menu) (counts others : ℕ → ℕ → ℤ) (k : ℕ) → AreSameAfter m o counts others k → AreSameAfter o m others counts k
same-back m o counts others k same = record {
  bidders = sym same.bidders;
  bids = λ i from inside. sym (same.bids i from (omega (arith, inside, same.bidders)));
  lots = λ i h from inside. sym (same.lots i h from (omega (arith, inside, same.bidders)));
  worths = λ i h from inside. sym (same.worths i h from (omega (arith, inside, same.bidders)));
}

same-next : (m o : Menu) (counts others : ℕ → ℕ → ℤ) (k : ℕ) → AreSameAfter m o counts others k → AreSameAfter m o counts others (suc k)
same-next m o counts others k same = record {
  bidders = same.bidders;
  bids = λ i from inside. same.bids i (omega (arith, from)) inside;
  lots = λ i h from inside. same.lots i h (omega (arith, from)) inside;
  worths = λ i h from inside. same.worths i h (omega (arith, from)) inside;
}

-- a choice of these bidders is known to both, takes the same and is worth the same
known-on :
    (m o : Menu) (counts others : ℕ → ℕ → ℤ) (k : ℕ) (c : List ℕ) → AreSameAfter m o counts others k → IsTrue (is_known_after m k c)
    → IsTrue (is_known_after o k c)
known-on m o counts others k [] same t = subst (λ (n : ℕ). IsTrue (k == n)) same.bidders t
known-on m o counts others k (i ∷ c) same t =
    let p = and_parts (nat_le i (m.bids (suc k))) (is_known_after m (suc k) c) t in
    let inside : k < m.bidders = omega (arith, known-length m (suc k) c p.1) in
    and_from (nat_le i (o.bids (suc k))) (is_known_after o (suc k) c) (subst (λ (n : ℕ). IsTrue (nat_le i n)) (same.bids k (omega arith) inside) p.0)
    (known-on m o counts others (suc k) c (same-next m o counts others k same) p.1)

taken-on :
    (m o : Menu) (counts others : ℕ → ℕ → ℤ) (k : ℕ) (c : List ℕ) → AreSameAfter m o counts others k → IsTrue (is_known_after m k c)
    → packages_after m k c ≡ packages_after o k c
taken-on m o counts others k [] same t = refl
taken-on m o counts others k (i ∷ c) same t =
    let p = and_parts (nat_le i (m.bids (suc k))) (is_known_after m (suc k) c) t in
    let inside : k < m.bidders = omega (arith, known-length m (suc k) c p.1) in
    ap (λ (l : List ℕ). together l (packages_after m (suc k) c)) (same.lots k i (omega arith) inside)
    ∙ ap (together (o.lots (suc k) i)) (taken-on m o counts others (suc k) c (same-next m o counts others k same) p.1)

sum-on :
    (m o : Menu) (counts others : ℕ → ℕ → ℤ) (k : ℕ) (c : List ℕ) → AreSameAfter m o counts others k → IsTrue (is_known_after m k c)
    → sum_after counts k c ≡ sum_after others k c
sum-on m o counts others k [] same t = refl
sum-on m o counts others k (i ∷ c) same t =
    let p = and_parts (nat_le i (m.bids (suc k))) (is_known_after m (suc k) c) t in
    let inside : k < m.bidders = omega (arith, known-length m (suc k) c p.1) in
    ap (λ (z : ℤ). z +ℤ sum_after counts (suc k) c) (same.worths k i (omega arith) inside)
    ∙ ap (λ (z : ℤ). others (suc k) i +ℤ z) (sum-on m o counts others (suc k) c (same-next m o counts others k same) p.1)

fits-on : (m o : Menu) (counts others : ℕ → ℕ → ℤ) (k : ℕ) (left c : List ℕ) → AreSameAfter m o counts others k → IsTrue (fits_after m k left c)
    → IsTrue (fits_after o k left c)
fits-on m o counts others k left c same t =
    let p = and_parts (is_known_after m k c) (is_within (packages_after m k c) left) t in
    and_from (is_known_after o k c) (is_within (packages_after o k c) left) (known-on m o counts others k c same p.0)
    (subst (λ (l : List ℕ). IsTrue (is_within l left)) (taken-on m o counts others k c same p.0) p.1)

known-of : (m : Menu) (k : ℕ) (left c : List ℕ) → IsTrue (fits_after m k left c) → IsTrue (is_known_after m k c)
known-of m k left c t = (and_parts (is_known_after m k c) (is_within (packages_after m k c) left) t).0

entry-same : (m o : Menu) (counts others : ℕ → ℕ → ℤ) (k : ℕ) (left : List ℕ) (most : ℤ) → AreSameAfter m o counts others k → IsEntry m counts k left most
    → IsEntry o others k left most
entry-same m o counts others k left most same e =
    let c = e.reached.0 in
    let back = same-back m o counts others k same in
    record {
      reached = (
        c,
        fits-on m o counts others k left c same e.reached.1,
        sym (sum-on m o counts others k c same (known-of m k left c e.reached.1))
            ∙ e.reached.2,
      );
      bound = λ d t. rw (sum-on o m others counts k d back (known-of o k left d t)) (e.bound d (fits-on o m others counts k left d back t));
    }

-- so a line of one is a line of the other
pub line-same : (m o : Menu) (counts others : ℕ → ℕ → ℤ) (supply : List ℕ) (k : ℕ) (line : List ℤ) → AreSameAfter m o counts others k
    → IsLine m counts supply k line → IsLine o others supply k line
line-same m o counts others supply k line same e = record {
  places = e.places;
  exact = λ s inside. entry-same m o counts others k (left_at supply s) (get_or line s (pos 0)) same (e.exact s inside);
}
