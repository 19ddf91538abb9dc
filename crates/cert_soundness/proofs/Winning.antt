-- C2 and C3 show that the choice is the first of the greatest, and C4 that the choice of each part is greatest without its winner.
use Rattle.std.specs.Prelude.{IsFalse, IsTrue, List, [], length, nat_le, not, pos, refl, slice_index_or, suc, zero, ℕ, ℤ, ◌*◌, ◌+◌, ◌-ℤ◌, ◌-◌, ◌<ℤ◌}
use Rattle.std.specs.Prelude.{◌<◌, ◌==◌, ◌∷◌, ◌≡◌, ◌≤ℤ◌, ◌≤◌}
use Rattle.std.proofs.Common.{sym, ◌∙◌, ap, subst, arith}
use Rattle.std.proofs.lemmas.Bool.{and_from, le-leb, eqb-true, eq-eqb, not-true, not-false}
use Rattle.std.proofs.lemmas.Int.{ints}
use Rattle.auction_model.specs.Package.{is_within}
use Rattle.auction_model.specs.Place.{left_at, states_of}
use Rattle.auction_model.specs.Market.{number_of, sum_after, uses, value_of}
use Rattle.auction_model.specs.Menu.{Menu, fits_after, is_known_after, packages_after, without}
use Rattle.auction_model.specs.Greatest.{IsGreatest, IsWinning}
use Rattle.auction_model.specs.Table.{entry_at}
use Rattle.auction_model.specs.Book.{Book, bids_of, market_of, menu_of, net_of}
use Rattle.auction_model.specs.Prices.{allowed_without}
use Rattle.auction_model.proofs.ChoiceLaws.{known-length}
use Rattle.auction_model.proofs.BookMarket.{fits-known}
use Rattle.auction_model.proofs.PlaceLaws.{left_at-whole, states-positive}
use Rattle.auction_model.proofs.SkipLaws.{fits-skip}
use Rattle.cert_grammar.specs.Certificate.{CertValue, part_of}
use Rattle.cert_soundness.specs.Tests.{Obeys, bidders_of, states, full, C2, C3, C4, IsPart, won}
use Rattle.cert_soundness.proofs.Bounds.{counted, bounded, earlier_is_less}

-- if the number 0 is worth 0, a choice is worth the same with 0 counted for it
pub sum-counted : (worth : ℕ → ℕ → ℤ) → ((j : ℕ) → worth j 0 ≡ pos 0) → (k : ℕ) (c : List ℕ) → sum_after (counted worth) k c ≡ sum_after worth k c
sum-counted worth none k [] = refl
sum-counted worth none k (zero ∷ c) = let a = sum-counted worth none (suc k) c in let b = none (suc k) in omega (arith, ints, a, b)
sum-counted worth none k (suc i ∷ c) = let a = sum-counted worth none (suc k) c in omega (arith, ints, a)

-- a choice with a number of a bid, or 0, for each bidder is known
pub known_from : (m : Menu) (k : ℕ) (c : List ℕ) → k + length c ≡ m.bidders → ((n : ℕ) → n < length c → slice_index_or c n 0 ≤ m.bids (suc (k + n)))
    → IsTrue (is_known_after m k c)
known_from m k [] e h = eq-eqb k m.bidders (omega arith)
known_from m k (i ∷ c) e h =
    and_from (nat_le i (m.bids (suc k))) (is_known_after m (suc k) c)
    (le-leb i (m.bids (suc k)) (subst (λ (x : ℕ). i ≤ m.bids (suc x)) (omega arith) (h 0 (omega arith))))
    (known_from m (suc k) c (omega arith) (λ n lt. subst (λ (x : ℕ). slice_index_or c n 0 ≤ m.bids (suc x)) (omega arith) (h (suc n) (omega arith))))

-- the place of the whole supply is one of the states
pub full-below : (supply : List ℕ) → states_of supply - 1 < states_of supply
full-below supply = let s = states-positive supply in omega arith

-- a bidder that a choice doesn't use has the number 0
pub unused_from : (c : List ℕ) (j : ℕ) → IsTrue (not (uses c j)) → number_of c j ≡ 0
unused_from c j t = eqb-true (number_of c j) 0 (not-false (number_of c j == 0) (not-true (uses c j) t))

-- a bidder with the number 0 isn't used
pub unused_to : (c : List ℕ) (j : ℕ) → number_of c j ≡ 0 → IsTrue (not (uses c j))
unused_to c j z = subst (λ (n : ℕ). IsTrue (not (not (n == 0)))) (sym z) refl

-- an allowed choice has a number for each bidder
pub allowed-length : (book : Book) (f : List ℕ) → IsTrue ((market_of book).allowed f) → length f ≡ bidders_of book
allowed-length book f t = let e = known-length (menu_of book) 0 f (fits-known (menu_of book) book.supply f t) in omega (arith, e)

-- what a loser wins is worth 0
pub lost-nothing : (book : Book) (c : CertValue) (j : ℕ) → IsFalse (uses c.choice j) → won book c j ≡ pos 0
lost-nothing book c j t = ap (net_of book j) (eqb-true (number_of c.choice j) 0 (not-false (number_of c.choice j == 0) t))

module _ (book : Book) (c : CertValue) (length_is : length c.choice ≡ bidders_of book) (h2 : (place : ℕ) → C2 book c place)
    (h3 : (place : ℕ) → C3 book c place) where
  -- the choice is known
  pub known : IsTrue (is_known_after (menu_of book) 0 c.choice)
  known = known_from (menu_of book) 0 c.choice (omega (arith, length_is))
      (λ n lt. subst (λ (x : ℕ). slice_index_or c.choice x 0 ≤ length (bids_of book (suc (0 + n)))) (omega arith)
      ((h2 (suc (0 + n))).known (omega arith) (omega (arith, length_is))))

  -- the choice is allowed
  pub allowed : IsTrue ((market_of book).allowed c.choice)
  allowed = and_from (is_known_after (menu_of book) 0 c.choice) (is_within (packages_after (menu_of book) 0 c.choice) book.supply) known
      ((h2 (bidders_of book + 1)).fits refl)

  -- the value of the certificate is that of its choice
  pub value_is : value_of (market_of book) c.choice ≡ c.value
  value_is = (h2 (bidders_of book + 2)).value refl

  -- the table obeys the rules for the net amounts
  pub obeys : Obeys (menu_of book) (net_of book) book.supply c.table
  obeys k s le lt = (h3 (k * states book + s)).rules k s le lt refl

  top : entry_at c.table 0 (full book) ≤ℤ c.value
  top = (h3 ((bidders_of book + 1) * states book)).top refl

  whole : (d : List ℕ) → IsTrue ((market_of book).allowed d) → IsTrue (fits_after (menu_of book) 0 (left_at book.supply (full book)) d)
  whole d t = subst (λ (l : List ℕ). IsTrue (fits_after (menu_of book) 0 l d)) (sym (left_at-whole book.supply)) t

  -- no allowed choice is worth more than that of the certificate
  pub most : (d : List ℕ) → IsTrue ((market_of book).allowed d) → value_of (market_of book) d ≤ℤ value_of (market_of book) c.choice
  most d t =
      let b : sum_after (counted (net_of book)) 0 d ≤ℤ entry_at c.table 0 (full book) = bounded (menu_of book) (net_of book) book.supply c.table
      (λ j. refl) obeys d 0 (full book) (omega arith) (full-below book.supply) (whole d t) in
      let e = sum-counted (net_of book) (λ j. refl) 0 d in
      omega (arith, ints, b, e, top, value_is)

  -- the choice is the winning one: the first of the greatest
  pub winning : IsWinning (market_of book) c.choice
  winning = record {
    passed = allowed;
    greatest = most;
    first = λ d t before.
        let b : sum_after (counted (net_of book)) 0 d <ℤ (c.value -ℤ pos 0) =
        earlier_is_less (menu_of book) (net_of book) book.supply c.table (λ j. refl) obeys c.choice c.value (λ j. refl)
        (λ k lt. (h3 ((bidders_of book + 1) * states book + suc k)).first k lt refl)
        d c.choice 0 (full book) (record { same = λ n. ap (λ (x : ℕ). slice_index_or c.choice x 0) (omega arith) }) (omega arith) (full-below book.supply)
        (left_at-whole book.supply) (whole d t) before in
        let e = sum-counted (net_of book) (λ j. refl) 0 d in
        omega (arith, ints, b, e, value_is);
  }

  -- no choice that does not use winner j is worth more than the choice of its part
  pub part_most : (j : ℕ) → 0 < j → IsPart book j (part_of c.withouts j) → (d : List ℕ) → IsTrue (allowed_without (market_of book) j d)
      → value_of (market_of book) d ≤ℤ value_of (market_of book) (part_of c.withouts j).choice
  part_most j some part d t =
      let f : IsTrue (fits_after (without (menu_of book) j) 0 book.supply d) = fits-skip (menu_of book) j book.supply d some ∙ t in
      let b : sum_after (counted (net_of book)) 0 d ≤ℤ entry_at (part_of c.withouts j).table 0 (full book) =
      bounded (without (menu_of book) j) (net_of book) book.supply (part_of c.withouts j).table (λ i. refl) part.rules d 0 (full book) (omega arith)
      (full-below book.supply)
      (subst (λ (l : List ℕ). IsTrue (fits_after (without (menu_of book) j) 0 l d)) (sym (left_at-whole book.supply)) f) in
      let e = sum-counted (net_of book) (λ i. refl) 0 d in
      omega (arith, ints, b, e, part.top)

  -- if C4 holds, the choice of a winner's part is greatest of those that don't use it
  pub part_greatest : ((place : ℕ) → C4 book c place) → (j : ℕ) → 0 < j → j ≤ bidders_of book → IsTrue (uses c.choice j)
      → IsGreatest (allowed_without (market_of book) j) (value_of (market_of book)) (part_of c.withouts j).choice
  part_greatest h4 j some le used =
      let part = (h4 j).part some le used in
      let chosen = (part_of c.withouts j).choice in
      record {
        passed = and_from ((market_of book).allowed chosen) (not (uses chosen j)) part.allowed (unused_to chosen j part.unused);
        greatest = part_most j some part;
      }
