-- A book whose net amounts aren't negative is a lawful market.
use Rattle.std.specs.Prelude.{◌≡◌, ℕ, zero, suc, ◌+◌, ◌-◌, ◌^◌, ◌≤◌, ◌<◌, pos, ◌≤ℤ◌, nat_le, IsTrue, List, [], ◌∷◌, length, replicate, get_or, set, refl}
use Rattle.std.proofs.Common.{sym, ◌∙◌, ap, arith}
use Rattle.std.proofs.lemmas.Bool.{and_parts, and_from, eq-eqb, le-leb}
use Rattle.auction_model.specs.Package.{together, is_within, less}
use Rattle.auction_model.specs.Menu.{Menu, is_known_after, packages_after, fits_after}
use Rattle.auction_model.specs.Book.{Book, menu_of, market_of, bids_of, net_of}
use Rattle.auction_model.specs.Greatest.{IsWinning}
use Rattle.auction_model.specs.Lawful.{IsMarket}
use Rattle.auction_model.proofs.PackageLaws.{within-together}
use Rattle.auction_model.proofs.ChoiceLaws.{known-length, known-at}

-- a choice that fits is known
pub fits-known : (m : Menu) (s c : List ℕ) → IsTrue (fits_after m 0 s c) → IsTrue (is_known_after m 0 c)
fits-known m s c t = (and_parts (is_known_after m 0 c) (is_within (packages_after m 0 c) s) t).0

-- 0 for each of the bidders after k is a known choice
pub none-known : (m : Menu) (k n : ℕ) → k + n ≡ m.bidders → IsTrue (is_known_after m k (replicate n 0))
none-known m k zero e = eq-eqb k m.bidders (omega arith)
none-known m k (suc n) e = and_from (nat_le 0 (m.bids (suc k))) (is_known_after m (suc k) (replicate n 0)) (le-leb 0 (m.bids (suc k)) (omega arith))
    (none-known m (suc k) n (omega arith))

-- bidders that are all given number 0 take no lots
pub none-taken : (m : Menu) (k n : ℕ) → ((j : ℕ) → m.lots j 0 ≡ []) → packages_after m k (replicate n 0) ≡ []
none-taken m k zero none = refl
none-taken m k (suc n) none = rw (none (suc k)) (none-taken m (suc k) n none)

-- two packages make the same sum in either order
pub together-comm : (p q : List ℕ) → together p q ≡ together q p
together-comm [] [] = refl
together-comm [] (b ∷ q) = refl
together-comm (a ∷ p) [] = refl
together-comm (a ∷ p) (b ∷ q) = let e : a + b ≡ b + a = omega arith in rw (e, together-comm p q) refl

-- a bid less takes no more
pub fewer-within : (p q s : List ℕ) → IsTrue (is_within (together p q) s) → IsTrue (is_within q s)
fewer-within p q s t = (and_parts (is_within q s) (is_within p (less s q)) (sym (within-together q p s) ∙ (ap (λ r. is_within r s) (together-comm q p) ∙ t))).0

-- a known choice stays known when one of its numbers becomes 0
pub fewer-known : (m : Menu) (k : ℕ) (c : List ℕ) (i : ℕ) → IsTrue (is_known_after m k c) → IsTrue (is_known_after m k (set c i 0))
fewer-known m k [] i t = t
fewer-known m k (x ∷ c) zero t =
    let p = and_parts (nat_le x (m.bids (suc k))) (is_known_after m (suc k) c) t in
    and_from (nat_le 0 (m.bids (suc k))) (is_known_after m (suc k) c) (le-leb 0 (m.bids (suc k)) (omega arith)) p.1
fewer-known m k (x ∷ c) (suc i) t =
    let p = and_parts (nat_le x (m.bids (suc k))) (is_known_after m (suc k) c) t in
    and_from (nat_le x (m.bids (suc k))) (is_known_after m (suc k) (set c i 0)) p.0 (fewer-known m (suc k) c i p.1)

-- packages of a choice that are within a supply stay within it when one of its numbers becomes 0
pub fewer-taken : (m : Menu) (k : ℕ) (c : List ℕ) (i : ℕ) (s : List ℕ) → ((j : ℕ) → m.lots j 0 ≡ []) → IsTrue (is_within (packages_after m k c) s)
    → IsTrue (is_within (packages_after m k (set c i 0)) s)
fewer-taken m k [] i s none t = t
fewer-taken m k (x ∷ c) zero s none t = rw (none (suc k)) (fewer-within (m.lots (suc k) x) (packages_after m (suc k) c) s t)
fewer-taken m k (x ∷ c) (suc i) s none t =
    let own = m.lots (suc k) x in
    let p = and_parts (is_within own s) (is_within (packages_after m (suc k) c) (less s own)) (sym (within-together own (packages_after m (suc k) c) s) ∙ t) in
    within-together own (packages_after m (suc k) (set c i 0)) s
    ∙ and_from (is_within own s) (is_within (packages_after m (suc k) (set c i 0)) (less s own)) p.0 (fewer-taken m (suc k) c i (less s own) none p.1)

-- a winning choice has a number for each bidder
pub winning-count : (book : Book) (choice : List ℕ) → IsWinning (market_of book) choice → length choice ≡ length book.bidders
winning-count book choice is = omega (arith, known-length (menu_of book) 0 choice (fits-known (menu_of book) book.supply choice is.passed))

-- a book of fewer than 65,536 bidders with no net amount below 0 gives a lawful market
pub market-of_book : (book : Book) → length book.bidders < 2 ^ 16 → ((j i : ℕ) → i ≤ length (bids_of book j) → pos 0 ≤ℤ net_of book j i)
    → IsMarket (market_of book)
market-of_book book few not_negative = record {
  few = few;
  lengths = λ c t. let e = known-length (menu_of book) 0 c (fits-known (menu_of book) book.supply c t) in omega (arith, e);
  numbers = λ c j t some inside. numbers c j t some inside;
  empty =
      let m = menu_of book in
      let n = length book.bidders in
      let taken : packages_after m 0 (replicate n 0) ≡ [] = none-taken m 0 n (λ j. refl) in
      and_from (is_known_after m 0 (replicate n 0)) (is_within (packages_after m 0 (replicate n 0)) book.supply) (none-known m 0 n (omega arith))
      (rw taken refl);
  fewer = λ c j t.
      let m = menu_of book in
      let p = and_parts (is_known_after m 0 c) (is_within (packages_after m 0 c) book.supply) t in
      and_from (is_known_after m 0 (set c (j - 1) 0)) (is_within (packages_after m 0 (set c (j - 1) 0)) book.supply) (fewer-known m 0 c (j - 1) p.0)
      (fewer-taken m 0 c (j - 1) book.supply (λ i. refl) p.1);
  none = λ j. refl;
  not_negative = λ c j t some inside. not_negative j (get_or c (j - 1) 0) (numbers c j t some inside);
}
  where
    numbers : (c : List ℕ) (j : ℕ) → IsTrue (fits_after (menu_of book) 0 book.supply c) → 0 < j → j ≤ length book.bidders
        → get_or c (j - 1) 0 ≤ length (bids_of book j)
    numbers c j t some inside =
        let m = menu_of book in
        let known = fits-known m book.supply c t in
        let all = known-length m 0 c known in
        let at : get_or c (j - 1) 0 ≤ length (bids_of book (suc 0 + (j - 1))) = known-at m 0 c (j - 1) known (omega (arith, all)) in
        let same : suc 0 + (j - 1) ≡ j = omega arith in
        rw same at at
