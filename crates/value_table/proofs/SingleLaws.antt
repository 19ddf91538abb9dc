-- No bid is worth more than the winning choice, so no lowered sum leaves the range.
use Rattle.std.specs.Prelude.{Bool, IsTrue, List, [], length, nat_le, negsuc, pos, refl, replicate, set, suc, unsigned_abs, zero, ℕ, ℤ, ◌*◌, ◌+ℤ◌}
use Rattle.std.specs.Prelude.{◌+◌, ◌-◌, ◌<◌, ◌∷◌, ◌≡◌, ◌≤ℤ◌, ◌≤◌}
use Rattle.std.proofs.Common.{sym, ◌∙◌, ap, arith}
use Rattle.std.proofs.lemmas.Bool.{and_from, le-leb}
use Rattle.std.proofs.lemmas.Int.{ints}
use Rattle.std.proofs.Math.Nat.{mul-le-mul_left}
use Rattle.auction_model.specs.Package.{is_within, together}
use Rattle.auction_model.specs.Market.{sum_after, value_of}
use Rattle.auction_model.specs.Menu.{Menu, fits_after, is_known_after, packages_after}
use Rattle.auction_model.specs.Greatest.{IsFirstGreatest, IsGreatestValue, IsWinning}
use Rattle.auction_model.specs.Book.{Book, bids_of, lots_of, market_of, menu_of, net_of}
use Rattle.auction_model.specs.Lowered.{greatest_size, of_bidder, sum_to}
use Rattle.choices.specs.Lowering.{CanLower}
use Rattle.auction_model.proofs.PlainLaws.{greatest-at_most}
use Rattle.auction_model.proofs.BookMarket.{none-known, none-taken}
use Rattle.value_table.proofs.Plain.{bids-fewer}
use Rattle.value_table.specs.BookTable.{menu_without, IsInRange}
use Rattle.bid_book.specs.Kept.{IsBidBook}

-- the choice that gives one bidder a bid and the others none
abbrev pub single : ℕ → ℕ → ℕ → List ℕ
single n p i = set (replicate n 0) p i

single-known : (m : Menu) (k n p i : ℕ) → k + n ≡ m.bidders → p < n → i ≤ m.bids (suc k + p) → IsTrue (is_known_after m k (single n p i))
single-known m k zero p i e h low = absurd (omega arith)
single-known m k (suc n) zero i e h low =
    let same : suc k + 0 ≡ suc k = omega arith in
    and_from (nat_le i (m.bids (suc k))) (is_known_after m (suc k) (replicate n 0)) (le-leb i (m.bids (suc k)) (rw same at low))
    (none-known m (suc k) n (omega arith))
single-known m k (suc n) (suc p) i e h low =
    let same : suc k + suc p ≡ suc (suc k) + p = omega arith in
    and_from (nat_le 0 (m.bids (suc k))) (is_known_after m (suc k) (single n p i)) (le-leb 0 (m.bids (suc k)) (omega arith))
    (single-known m (suc k) n p i (omega arith) (omega arith) (rw same at low))

together-empty : (p : List ℕ) → together p [] ≡ p
together-empty [] = refl
together-empty (a ∷ p) = refl

single-taken : (m : Menu) (k n p i : ℕ) → ((j : ℕ) → m.lots j 0 ≡ []) → p < n → packages_after m k (single n p i) ≡ m.lots (suc k + p) i
single-taken m k zero p i none h = absurd (omega arith)
single-taken m k (suc n) zero i none h =
    let same : suc k ≡ suc k + 0 = omega arith in
    ap (λ q. together (m.lots (suc k) i) q) (none-taken m (suc k) n none) ∙ together-empty (m.lots (suc k) i) ∙ ap (λ j. m.lots j i) same
single-taken m k (suc n) (suc p) i none h =
    let same : suc (suc k) + p ≡ suc k + suc p = omega arith in
    ap (λ q. together q (packages_after m (suc k) (single n p i))) (none (suc k)) ∙ single-taken m (suc k) n p i none (omega arith) ∙ ap (λ j. m.lots j i) same

-- a choice in which nobody has a bid is worth 0
pub none-sum : (worth : ℕ → ℕ → ℤ) (k n : ℕ) → ((j : ℕ) → worth j 0 ≡ pos 0) → sum_after worth k (replicate n 0) ≡ pos 0
none-sum worth k zero none = refl
none-sum worth k (suc n) none = omega (arith, ints, none (suc k), none-sum worth (suc k) n none)

single-sum : (worth : ℕ → ℕ → ℤ) (k n p i : ℕ) → ((j : ℕ) → worth j 0 ≡ pos 0) → p < n → sum_after worth k (single n p i) ≡ worth (suc k + p) i
single-sum worth k zero p i none h = absurd (omega arith)
single-sum worth k (suc n) zero i none h =
    let same : suc k ≡ suc k + 0 = omega arith in
    let rest = none-sum worth (suc k) n none in
    let one : worth (suc k) i +ℤ sum_after worth (suc k) (replicate n 0) ≡ worth (suc k) i = omega (arith, ints, rest) in
    one ∙ ap (λ j. worth j i) same
single-sum worth k (suc n) (suc p) i none h =
    let same : suc (suc k) + p ≡ suc k + suc p = omega arith in
    let rest = single-sum worth (suc k) n p i none (omega arith) in
    let one : worth (suc k) 0 +ℤ sum_after worth (suc k) (single n p i) ≡ worth (suc (suc k) + p) i = omega (arith, ints, rest, none (suc k)) in
    one ∙ ap (λ j. worth j i) same

lots-within : (book : Book) → IsBidBook book → (j i : ℕ) → i ≤ length (bids_of book j) → IsTrue (is_within (lots_of book j i) book.supply)
lots-within book kept j zero h = refl
lots-within book kept j (suc i) h = kept.within j i h

-- no bid is worth more than the winning choice
pub net-at_most : (book : Book) (z : List ℕ) → IsBidBook book → IsWinning (market_of book) z → (j i : ℕ) → 0 < j → j ≤ length book.bidders
    → i ≤ length (bids_of book j) → net_of book j i ≤ℤ value_of (market_of book) z
net-at_most book z kept first j i some inside known =
    let m = menu_of book in
    let n = length book.bidders in
    let p = j - 1 in
    let next : suc 0 + p ≡ j = omega arith in
    let c = single n p i in
    let low : i ≤ m.bids (suc 0 + p) = rw next known in
    let taken : packages_after m 0 c ≡ lots_of book (suc 0 + p) i = single-taken m 0 n p i (λ _. refl) (omega arith) in
    let own : IsTrue (is_within (lots_of book (suc 0 + p) i) book.supply) = rw next (lots-within book kept j i known) in
    let fits : IsTrue (fits_after m 0 book.supply c) = and_from (is_known_after m 0 c) (is_within (packages_after m 0 c) book.supply)
    (single-known m 0 n p i (omega arith) (omega arith) low) (rw taken own) in
    let worth : sum_after (net_of book) 0 c ≡ net_of book (suc 0 + p) i = single-sum (net_of book) 0 n p i (λ _. refl) (omega arith) in
    rw (sym (ap (λ x. net_of book x i) next)) (rw worth at (first.greatest c fits))

abs-at_most : (a b : ℤ) → pos 0 ≤ℤ a → a ≤ℤ b → unsigned_abs a ≤ unsigned_abs b
abs-at_most (pos a) (pos b) h k = omega (arith, ints)
abs-at_most (pos a) (negsuc b) h k = absurd (omega (arith, ints))
abs-at_most (negsuc a) b h k = absurd (omega (arith, ints))

sum_to-below : (f s : ℕ → ℕ) (n most : ℕ) → ((j : ℕ) → 0 < j → j ≤ n → f j ≤ most + s j) → sum_to f n ≤ n * most + sum_to s n
sum_to-below f s zero most h = omega arith
sum_to-below f s (suc n) most h = omega (arith, sum_to-below f s n most (λ j p q. h j p (omega arith)), h (suc n) (omega arith) (omega arith))

-- under the condition of a search with lowered worths, no lowered sum of the book leaves the range
pub range-of : (book : Book) (z : List ℕ) (den : ℤ) (surplus : List ℤ) → IsBidBook book → IsWinning (market_of book) z
    → CanLower (market_of book) z den surplus → IsInRange book 0 den surplus
range-of book z den surplus kept first can =
    let V = unsigned_abs (value_of (market_of book) z) in
    let D = unsigned_abs den in
    let n = length book.bidders in
    let bids = (menu_without book 0).bids in
    let each : (j : ℕ) → 0 < j → j ≤ n → D * greatest_size (net_of book j) (bids j) + unsigned_abs (of_bidder surplus j) ≤ D * V + unsigned_abs
    (of_bidder surplus j) =
    λ j some inside.
    let top : greatest_size (net_of book j) (bids j) ≤ V = greatest-at_most (net_of book j) (bids j) V (λ i low.
    let known : i ≤ length (bids_of book j) = omega (arith, bids-fewer book 0 j) in
    abs-at_most (net_of book j i) (value_of (market_of book) z) (kept.not_negative j i known) (net-at_most book z kept first j i some inside known)) in
    omega (arith, mul-le-mul_left D top) in
    let all = sum_to-below (λ j. D * greatest_size (net_of book j) (bids j) + unsigned_abs (of_bidder surplus j)) (λ j. unsigned_abs (of_bidder surplus j)) n
    (D * V) each in
    omega (arith, all, can.range)

-- the greatest value is the value of the first greatest choice
pub greatest-is : (p : List ℕ → Bool) (v : List ℕ → ℤ) (e : ℤ) (c : List ℕ) → IsGreatestValue p v e → IsFirstGreatest p v c → e ≡ v c
greatest-is p v e c g f =
    let is = g.reached.2 in
    let up = f.greatest g.reached.0 g.reached.1 in
    let down = g.bound c f.passed in
    omega (arith, ints, is, up, down)
