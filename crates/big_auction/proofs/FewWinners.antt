-- At most four bidders win a made auction.
use Rattle.std.proofs.Common.{List, [], ap, arith, false, get_or, inl, inr, length, map, not, refl, reverse, subst, suc, sym, true, zero, ℕ, ◌++◌}
use Rattle.std.proofs.Common.{◌-◌, ◌<◌, ◌∙◌, ◌∷◌, ◌≡◌, ◌≤◌}
use Rattle.std.specs.Prelude.{IsTrue, nat_le, slice_index, filter}
use Rattle.std.specs.List.{AllByRecursion}
use Rattle.std.proofs.lemmas.Bool.{cases_Bool, cases_lt, and_parts, leb-true, false≢true}
use Rattle.std.proofs.lemmas.List.{get_or_past}
use Rattle.auction_model.specs.Book.{Bidder, Book, BookBid, market_of, menu_of, no_bid, no_bidder}
use Rattle.auction_model.specs.Menu.{Menu, is_known_after, packages_after}
use Rattle.auction_model.specs.Package.{is_within}
use Rattle.auction_model.specs.PackageTests.{is_empty}
use Rattle.auction_rules.specs.Rounds.{OwnRound, listing}
use Rattle.auction_rules.specs.Caps.{clock_bid, greatest}
use Rattle.auction_rules.specs.Lines.{in_order}
use Rattle.auction_rules.specs.BookOfLog.{best_bids, bid_lots, book_bidder, book_bids, book_of_log, pairs_of}
use Rattle.auction_rules.specs.State.{DeskState, Round, book_in, own_of, round_of, standing_in}
use Rattle.auction_rules.proofs.LawfulBids.{each-in_order, each-priced}
use Rattle.auction_rules.proofs.BookLaws.{book_in-state_of}
use Rattle.auction_rules.proofs.States.{get_or-listing, length-listing}
use Rattle.core_laws.specs.Winners.{winners_in}
use Rattle.big_auction.specs.MadeAward.{made_terms}
use Rattle.big_auction.specs.MadeLog.{package_of, reduced, held_by, made_log}
use Rattle.big_auction.proofs.ClockRounds.{rounds_to}
use Rattle.big_auction.proofs.Drawing.{IsOwn-package_of}
use Rattle.big_auction.proofs.MadeClock.{held-early, held-last, stays, leaves, own-rounds, none-yet, each-push, head-together}
use Rattle.big_auction.proofs.Offers.{own-lot, reduced-own}
use Rattle.big_auction.proofs.SealedRound.{HasLot}
use Rattle.big_auction.proofs.WholeLog.{IsEnd, end_state, end_of_log, log-state}

-- a package that is empty or has a lot of the first category
abbrev IsEmptyOrHasLot : List ℕ → Type 0
IsEmptyOrHasLot lots = is_empty lots ≡ false → 1 ≤ slice_index lots 0

some-held : (number r k : ℕ) → IsEmptyOrHasLot (held_by number r k)
some-held number r k some =
    elim (cases_lt 9 r) [
      | inr early ↦ rw (held-early number r k early) (own-lot (package_of number k) (IsOwn-package_of number k))
      | inl late ↦ elim (cases_lt 4 k) [
        | inl more ↦ let empty : is_empty (held_by number r k) ≡ true = rw (held-last number r k late, leaves number k more) refl in
            absurd (false≢true (sym some ∙ empty))
        | inr few ↦ rw (held-last number r k late, stays number k few) (own-lot (reduced (package_of number k))
            (reduced-own (package_of number k) (IsOwn-package_of number k)))
      ]
    ]

-- what a listing has at a place, or the default
at-listing : {A : Type 0} (P : A → Type 0) (f : ℕ → A) (n i : ℕ) (d : A) → P d → ((k : ℕ) → P (f k)) → P (get_or (listing f n) i d)
at-listing P f n i d none each =
    elim (cases_lt i n) [
      | inl low ↦ subst P (sym (get_or-listing f n i d low)) (each (suc i))
      | inr high ↦ let long : length (listing f n) ≤ i = omega (arith, length-listing f n, high) in subst P (sym (get_or_past (listing f n) i d long)) none
    ]

each-held : (number j n : ℕ) → AllByRecursion (λ r. IsEmptyOrHasLot r.held) (map (own_of j) (rounds_to (held_by number) n))
each-held number j zero = subst (AllByRecursion (λ (r : OwnRound). IsEmptyOrHasLot r.held)) (sym (none-yet (held_by number) j)) tt
each-held number j (suc n) =
    subst (AllByRecursion (λ (r : OwnRound). IsEmptyOrHasLot r.held)) (sym (own-rounds (held_by number) j n))
    (each-push (λ (r : OwnRound). IsEmptyOrHasLot r.held) (map (own_of j) (rounds_to (held_by number) n))
    (own_of j (round_of made_terms (held_by number) (suc n))) (each-held number j n)
    (at-listing IsEmptyOrHasLot (held_by number (suc n)) 12 (j - 1) [] (λ some. absurd (false≢true (sym some))) (some-held number (suc n))))

each-clock : (rounds : List OwnRound) (more : List BookBid) → AllByRecursion (λ r. IsEmptyOrHasLot r.held) rounds → AllByRecursion HasLot more
    → AllByRecursion IsEmptyOrHasLot (map bid_lots (map clock_bid rounds ++ more))
each-clock [] [] each lots = tt
each-clock [] (b ∷ more) each lots = ((λ some. lots.0), each-clock [] more tt lots.1)
each-clock (r ∷ rounds) more each lots = (each.0, each-clock rounds more each.1 lots)

each-kept : (ps : List (List ℕ)) → AllByRecursion IsEmptyOrHasLot ps → AllByRecursion (λ lots. 1 ≤ slice_index lots 0) (filter (λ lots. not (is_empty lots)) ps)
each-kept [] each = tt
each-kept (p ∷ ps) each =
    elim (cases_Bool (is_empty p)) [
      | inl empty ↦ rw empty (each-kept ps each.1)
      | inr some ↦ rw some (each.0 some, each-kept ps each.1)
    ]

-- each bid of the book has a lot of the first category
bids-have : (bids : List BookBid) → AllByRecursion IsEmptyOrHasLot (map bid_lots bids) → AllByRecursion HasLot (best_bids bids)
bids-have bids each =
    let kept : List (List ℕ) = filter (λ lots. not (is_empty lots)) (map bid_lots bids) in
    each-priced HasLot (λ lots. greatest lots bids) (in_order kept)
    (each-in_order (λ lots. 1 ≤ slice_index lots 0) kept (each-kept (map bid_lots bids) each))

book-has : (number : ℕ) (st : DeskState) → IsEnd number st → (j : ℕ) → AllByRecursion HasLot (book_bids (standing_in st j))
book-has number st is j =
    let clock : AllByRecursion (λ (r : OwnRound). IsEmptyOrHasLot r.held) (map (own_of j) st.rounds) =
    subst (λ (rs : List Round). AllByRecursion (λ (r : OwnRound). IsEmptyOrHasLot r.held) (map (own_of j) rs)) (sym is.rounds) (each-held number j 10) in
    bids-have (pairs_of (standing_in st j)) (each-clock (map (own_of j) st.rounds) (get_or st.submitted (j - 1) []) clock (is.lots (j - 1)))

each-at : {A : Type 0} (P : A → Type 0) (xs : List A) (i : ℕ) (d : A) → i < length xs → AllByRecursion P xs → P (get_or xs i d)
each-at P [] i d low each = absurd (omega arith)
each-at P (x ∷ xs) zero d low each = each.0
each-at P (x ∷ xs) (suc i) d low each = each-at P xs i d (omega arith) each.1

-- each bid that a choice may use has a lot of the first category
abbrev HaveLots : Menu → Type 0
HaveLots m = (j i : ℕ) → suc i ≤ m.bids j → 1 ≤ slice_index (m.lots j (suc i)) 0

count : (m : Menu) (k : ℕ) (c : List ℕ) → HaveLots m → is_known_after m k c ≡ true → winners_in c ≤ slice_index (packages_after m k c) 0
count m k [] have known = omega arith
count m k (zero ∷ c) have known =
    let both : (nat_le zero (m.bids (suc k)) ≡ true) × (is_known_after m (suc k) c ≡ true) = and_parts (nat_le zero (m.bids (suc k)))
    (is_known_after m (suc k) c) known in
    omega (arith, head-together (m.lots (suc k) zero) (packages_after m (suc k) c), count m (suc k) c have both.1)
count m k (suc i ∷ c) have known =
    let both : (nat_le (suc i) (m.bids (suc k)) ≡ true) × (is_known_after m (suc k) c ≡ true) = and_parts (nat_le (suc i) (m.bids (suc k)))
    (is_known_after m (suc k) c) known in
    omega (
      arith,
      head-together (m.lots (suc k) (suc i)) (packages_after m (suc k) c),
      count m (suc k) c have both.1,
      have (suc k) i (leb-true (suc i) (m.bids (suc k)) both.0),
    )

head-within : (d rest : List ℕ) (most : ℕ) → is_within d (most ∷ rest) ≡ true → slice_index d 0 ≤ most
head-within [] rest most within = omega arith
head-within (a ∷ d) rest most within = leb-true a most (and_parts (nat_le a most) (is_within d rest) within).0

-- the bids of the book of a state
book-lots : (number : ℕ) (st : DeskState) → IsEnd number st → HaveLots (menu_of (book_in st))
book-lots number st is j i few =
    let bidders : List Bidder = listing (book_bidder st.terms (λ j. book_bids (standing_in st j))) (length st.terms.bidders) in
    let own : AllByRecursion HasLot (get_or bidders (j - 1) no_bidder).bids =
    at-listing (λ (b : Bidder). AllByRecursion HasLot b.bids) (book_bidder st.terms (λ j. book_bids (standing_in st j))) (length st.terms.bidders)
    (j - 1) no_bidder tt (book-has number st is) in
    each-at HasLot (get_or bidders (j - 1) no_bidder).bids i no_bid (omega (arith, few)) own

few-in : (number : ℕ) (st : DeskState) (c : List ℕ) → IsEnd number st → IsTrue ((market_of (book_in st)).allowed c) → winners_in c ≤ 4
few-in number st c is allowed =
    let m : Menu = menu_of (book_in st) in
    let both : (is_known_after m 0 c ≡ true) × (is_within (packages_after m 0 c) st.terms.supply ≡ true) =
    and_parts (is_known_after m 0 c) (is_within (packages_after m 0 c) st.terms.supply) allowed in
    let within : is_within (packages_after m 0 c) (4 ∷ 1 ∷ 14 ∷ 9 ∷ []) ≡ true = subst (λ (t : _). is_within (packages_after m 0 c) t.supply ≡ true) is.terms
    both.1 in
    omega (arith, count m 0 c (book-lots number st is) both.0, head-within (packages_after m 0 c) (1 ∷ 14 ∷ 9 ∷ []) 4 within)

-- an allowed choice of the book of the made log has at most four winners
pub few-win : (number : ℕ) (c : List ℕ) → IsTrue ((market_of (book_of_log made_terms (reverse (made_log number)))).allowed c) → winners_in c ≤ 4
few-win number c allowed =
    let same : book_of_log made_terms (reverse (made_log number)) ≡ book_in (end_state number) =
    sym (book_in-state_of made_terms (reverse (made_log number))) ∙ ap book_in (log-state number) in
    few-in number (end_state number) c (end_of_log number) (subst (λ (b : Book). IsTrue ((market_of b).allowed c)) same allowed)
