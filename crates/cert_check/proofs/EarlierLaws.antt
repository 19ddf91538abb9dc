-- The bids of the first bidders of the choice, and what they leave.
use Rattle.std.specs.Prelude.{Bool, IsTrue, List, [], drop, get_or, length, refl, slice_index_or, suc, unsigned_abs, zero, ℕ, ℤ, ◌+ℤ◌, ◌+◌, ◌-ℤ◌, ◌-◌}
use Rattle.std.specs.Prelude.{◌<ℤ◌, ◌<◌, ◌^◌, ◌↔◌, ◌∷◌, ◌≡◌, ◌≤◌}
use Rattle.std.proofs.Common.{sym, ◌∙◌, ap, subst, arith, drop-cons}
use Rattle.std.proofs.lemmas.Int.{ints}
use Rattle.auction_model.specs.Package.{is_within, less}
use Rattle.auction_model.specs.Place.{left_at, place_of}
use Rattle.auction_model.specs.Market.{is_number_before, number_of}
use Rattle.auction_model.specs.Menu.{fits_after}
use Rattle.auction_model.specs.Book.{Book, bids_of, lots_of, market_of, menu_of, net_of}
use Rattle.auction_model.proofs.PlaceLaws.{left_at-less, left_at-whole, place-less_below, states-positive}
use Rattle.cert_grammar.specs.Certificate.{CertValue}
use Rattle.cert_soundness.specs.Tests.{NoEarlier, bidders_of, left_after, states}
use Rattle.cert_soundness.proofs.Bounds.{First, first_of_fitting}
use Rattle.cert_check.specs.EarlierBids.{StaysBelow, AllStayBelow, NoneEarlier, IsLeft}
use Rattle.limits.specs.declared.TheConstants.{MOST_AMOUNT}
use Rattle.wide_num.specs.Sums.{nth}

module _ (book : Book) (choice : List ℕ) (value : ℤ) (length_is : length choice ≡ bidders_of book) where
  -- before the first bidder the whole supply and the whole value are left
  pub left-start : IsTrue ((market_of book).allowed choice) → unsigned_abs value < 2 ^ 120 → IsLeft book choice value 0 (states book - 1) value
  left-start allowed small = record {
    place = (let s = states-positive book.supply in omega arith);
    left = left_at-whole book.supply;
    fits = subst (λ (l : List ℕ). IsTrue (fits_after (menu_of book) 0 l choice)) (sym (left_at-whole book.supply)) allowed;
    bound_is = omega (arith, ints);
    size = omega (arith, small);
  }

  number-at : (k : ℕ) → get_or choice k 0 ≡ number_of choice (suc k)
  number-at k = ap (λ (x : ℕ). get_or choice x 0) (omega arith)

  -- the number of the next bidder is that of a bid that fits
  left-first : (k rest : ℕ) (bound : ℤ) → k < bidders_of book → IsLeft book choice value k rest bound
      → First (menu_of book) k (left_at book.supply rest) (number_of choice (suc k)) (drop (suc k) choice)
  left-first k rest bound inside so =
      let split : drop k choice ≡ number_of choice (suc k) ∷ drop (suc k) choice = drop-cons choice k 0 (omega (arith, length_is, inside))
      ∙ ap (λ (n : ℕ). n ∷ drop (suc k) choice) (number-at k) in
      first_of_fitting (menu_of book) k (left_at book.supply rest) (number_of choice (suc k)) (drop (suc k) choice)
      (subst (λ (l : List ℕ). IsTrue (fits_after (menu_of book) k (left_at book.supply rest) l)) split so.fits)

  -- the next bidder's number is that of one of its bids, or 0
  pub left-known : (k rest j number : ℕ) (bound : ℤ) → k < bidders_of book → IsLeft book choice value k rest bound → j ≡ suc k → number ≡ number_of choice j
      → number ≤ length (bids_of book j)
  left-known k rest j number bound inside so j_is is = rw (is, j_is) (left-first k rest bound inside so).known

  -- the next bidder's package is within what is left
  pub left-own : (k rest j number : ℕ) (bound : ℤ) → k < bidders_of book → IsLeft book choice value k rest bound → j ≡ suc k → number ≡ number_of choice j
      → IsTrue (is_within (lots_of book j number) (left_at book.supply rest))
  left-own k rest j number bound inside so j_is is = rw (is, j_is) (left-first k rest bound inside so).own

  -- one bidder more
  pub left-next : (k rest j number next : ℕ) (bound net : ℤ) → k < bidders_of book → IsLeft book choice value k rest bound → j ≡ suc k
      → number ≡ number_of choice j
      → next ≡ place_of book.supply (less (left_at book.supply rest) (lots_of book j number)) → net ≡ net_of book j number → unsigned_abs net ≤ MOST_AMOUNT
      → IsLeft book choice value (k + 1) next (bound -ℤ net)
  left-next k rest j number next bound net inside so j_is number_is next_is net_is small =
      let up : suc k ≡ k + 1 = omega arith in
      let own = lots_of book (suc k) (number_of choice (suc k)) in
      let next_at : next ≡ place_of book.supply (less (left_at book.supply rest) (lots_of book (suc k) (number_of choice (suc k)))) =
      next_is ∙ rw (number_is, j_is) refl in
      let net_at : net ≡ net_of book (suc k) (number_of choice (suc k)) = net_is ∙ rw (number_is, j_is) refl in
      let there : left_at book.supply next ≡ less (left_at book.supply rest) (lots_of book (suc k) (number_of choice (suc k))) =
      ap (left_at book.supply) next_at ∙ left_at-less book.supply own rest so.place in
      let first = left-first k rest bound inside so in
      subst (λ (n : ℕ). IsLeft book choice value n next (bound -ℤ net)) up
      (record {
        place = subst (λ (n : ℕ). n < states book) (sym next_at) (place-less_below book.supply own rest so.place);
        left = there ∙ ap (λ (l : List ℕ). less l own) so.left;
        fits = subst (λ (l : List ℕ). IsTrue (fits_after (menu_of book) (suc k) l (drop (suc k) choice))) (sym there) first.rest;
        bound_is = (let a = so.bound_is in omega (arith, ints, a, net_at));
        size = (let a = so.size in omega (arith, ints, a, small));
      })

  -- what is asked of the earlier bids of the next bidder, by what is left
  pub left-asks : (k rest : ℕ) (bound : ℤ) (c : CertValue) (line : List ℤ) → IsLeft book choice value k rest bound → k < bidders_of book → c.choice ≡ choice
      → c.value ≡ value → slice_index_or c.table (suc k) [] ≡ line
      → AllStayBelow book choice (suc k) line rest bound ↔ NoneEarlier book c (suc k)
  left-asks k rest bound c line so inside choice_is value_is line_is = (
    λ all l lt e. let same : k ≡ l = omega (arith, e) in
        subst (λ (n : ℕ). NoEarlier (menu_of book) (net_of book) book.supply c.table c.choice c.value n) same
        (λ i before known fits.
        let b : IsTrue (is_number_before i (number_of choice (suc k))) = subst (λ (z : List ℕ). IsTrue (is_number_before i (number_of z (suc k)))) choice_is
        before in
        let f : IsTrue (is_within (lots_of book (suc k) i) (left_at book.supply rest)) =
        subst (λ (l : List ℕ). IsTrue (is_within (lots_of book (suc k) i) l)) (sym so.left)
        (subst (λ (z : List ℕ). IsTrue (is_within (lots_of book (suc k) i) (left_after (menu_of book) book.supply z k))) choice_is fits) in
        let own = all i b known f in
        rw (choice_is, value_is, line_is) (rw (so.left, so.bound_is) at own)),
    λ none i before known fits.
        let b : IsTrue (is_number_before i (number_of c.choice (suc k))) = subst (λ (z : List ℕ). IsTrue (is_number_before i (number_of z (suc k))))
        (sym choice_is) before in
        let f : IsTrue (is_within (lots_of book (suc k) i) (left_after (menu_of book) book.supply c.choice k)) =
        subst (λ (z : List ℕ). IsTrue (is_within (lots_of book (suc k) i) (left_after (menu_of book) book.supply z k))) (sym choice_is)
        (subst (λ (l : List ℕ). IsTrue (is_within (lots_of book (suc k) i) l)) so.left fits) in
        let own = none k inside refl i b known f in
        rw (so.left, so.bound_is) (rw (choice_is, value_is, line_is) at own),
  )

-- by its number
pub left-test : (book : Book) (choice : List ℕ) (value : ℤ) (j rest : ℕ) (bound : ℤ) (c : CertValue) (line : List ℤ) (b : Bool)
    → length choice ≡ bidders_of book → 0 < j → j ≤ bidders_of book → IsLeft book choice value (j - 1) rest bound
    → c.choice ≡ choice → c.value ≡ value → slice_index_or c.table j [] ≡ line → (IsTrue b ↔ AllStayBelow book choice j line rest bound)
    → IsTrue b ↔ NoneEarlier book c j
left-test book choice value zero rest bound c line b length_is some inside so choice_is value_is line_is test = absurd (omega (arith, some))
left-test book choice value (suc k) rest bound c line b length_is some inside so choice_is value_is line_is test =
    let back : suc k - 1 ≡ k = omega arith in
    let own : IsLeft book choice value k rest bound = subst (λ (n : ℕ). IsLeft book choice value n rest bound) back so in
    let asks = left-asks book choice value length_is k rest bound c line own (omega (arith, inside)) choice_is value_is line_is in
    (λ t. asks.0 (test.0 t), λ n. test.1 (asks.1 n))

-- nothing is asked of bidder 0, nor of one after the last
pub none-outside : (book : Book) (c : CertValue) (j : ℕ) → (0 < j → j ≤ bidders_of book → ⊥) → NoneEarlier book c j
none-outside book c j out k lt e = absurd (out (omega (arith, e)) (omega (arith, e, lt)))

-- a bid that fits
pub stays-some : (book : Book) (j : ℕ) (line : List ℤ) (rest : ℕ) (bound : ℤ) (i place : ℕ) (net : ℤ) (b : Bool)
    → IsTrue (is_within (lots_of book j i) (left_at book.supply rest))
    → place ≡ place_of book.supply (less (left_at book.supply rest) (lots_of book j i)) → net ≡ net_of book j i
    → (IsTrue b ↔ ((net +ℤ nth line place) <ℤ bound)) → IsTrue b ↔ StaysBelow book j line rest bound i
stays-some book j line rest bound i place net b fits place_is net_is e = (
  λ t _. rw (place_is, net_is) at (e.0 t),
  λ stays. e.1 (rw (place_is, net_is) (stays fits)),
)

-- the bids that come before a number are the first ones
pub all-below : (book : Book) (choice : List ℕ) (j : ℕ) (line : List ℤ) (rest : ℕ) (bound : ℤ) (n : ℕ)
    → ((i : ℕ) → i ≤ length (bids_of book j) → IsTrue (is_number_before i (number_of choice j)) ↔ ((0 < i) × (i ≤ n)))
    → ((h : ℕ) → h < n → StaysBelow book j line rest bound (h + 1)) → AllStayBelow book choice j line rest bound
all-below book choice j line rest bound n first all i before known =
    let p = (first i known).0 before in
    let back : (i - 1) + 1 ≡ i = omega (arith, p.0) in
    subst (λ (x : ℕ). StaysBelow book j line rest bound x) back (all (i - 1) (omega (arith, p.0, p.1)))
