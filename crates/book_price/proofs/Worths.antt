-- A choice is worth no more than its winners can bid.
use Rattle.std.specs.Prelude.{◌≡◌, ℕ, zero, suc, ◌*◌, ◌^◌, ◌<◌, ◌≤◌, nat_le, IsTrue, List, [], ◌∷◌, length, ℤ, pos, ◌≤ℤ◌, refl}
use Rattle.std.proofs.Common.{arith}
use Rattle.std.proofs.lemmas.Int.{ints}
use Rattle.std.proofs.lemmas.Bool.{and_parts, leb-true}
use Rattle.auction_model.specs.Market.{sum_after, value_of}
use Rattle.auction_model.specs.Menu.{Menu, is_known_after, packages_after}
use Rattle.auction_model.specs.Package.{is_within}
use Rattle.auction_model.specs.Book.{Book, bids_of, market_of, menu_of, net_of}
use Rattle.core_laws.specs.Winners.{winners_in}

-- the winners of a known choice, k bidders being passed
pub sum-most : (m : Menu) (worth : ℕ → ℕ → ℤ) → ((j : ℕ) → worth j 0 ≡ pos 0) → ((j i : ℕ) → 0 < j → i ≤ m.bids j → worth j i ≤ℤ pos (2 ^ 42))
    → (k : ℕ) (c : List ℕ) → IsTrue (is_known_after m k c)
    → sum_after worth k c ≤ℤ pos (winners_in c * 2 ^ 42)
sum-most m worth none most k [] known = omega (arith, ints)
sum-most m worth none most k (zero ∷ c) known =
    let rest = (and_parts (nat_le 0 (m.bids (suc k))) (is_known_after m (suc k) c) known).1 in
    let r = sum-most m worth none most (suc k) c rest in
    let n = none (suc k) in
    omega (arith, ints, r, n)
sum-most m worth none most k (suc i ∷ c) known =
    let parts = and_parts (nat_le (suc i) (m.bids (suc k))) (is_known_after m (suc k) c) known in
    let own = most (suc k) (suc i) (omega arith) (leb-true (suc i) (m.bids (suc k)) parts.0) in
    let r = sum-most m worth none most (suc k) c parts.1 in
    omega (arith, ints, own, r)

-- an allowed choice is worth at most 2^42 for each of its winners
pub value-most : (book : Book) (z : List ℕ) → ((j i : ℕ) → i ≤ length (bids_of book j) → net_of book j i ≤ℤ pos (2 ^ 42)) → IsTrue ((market_of book).allowed z)
    → value_of (market_of book) z ≤ℤ pos (winners_in z * 2 ^ 42)
value-most book z most allowed =
    sum-most (menu_of book) (net_of book) (λ j. refl) (λ j i some. most j i) 0 z
    (and_parts (is_known_after (menu_of book) 0 z) (is_within (packages_after (menu_of book) 0 z) book.supply) allowed).0
