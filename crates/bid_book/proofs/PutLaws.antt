-- The rules of a book go on to hold if a bid that keeps them is put in, and if a bid is taken out.
use Rattle.std.specs.Prelude.{◌≡◌, ◌≢◌, ℕ, zero, suc, ◌+◌, ◌-◌, ◌≤◌, ◌<◌, true, Option, None, List, [], ◌∷◌, ◌++◌, codes, length, get_or, map, replicate, refl}
use Rattle.std.proofs.Math.ListN.{length-set}
use Rattle.std.proofs.Common.{inl, inr, set, sym, ◌∙◌, ap, subst, arith}
use Rattle.std.specs.List.{AllByRecursion, remove}
use Rattle.std.specs.Option.{option_or}
use Rattle.std.proofs.lemmas.Bool.{cases_Bool}
use Rattle.std.proofs.lemmas.Bool.Decides.{nat_tests}
use Rattle.std.proofs.lemmas.List.{get_or-set_same}
use Rattle.std.proofs.lemmas.List.Edits.{length-remove}
use Rattle.line_format.specs.LineText.{first_excess}
use Rattle.line_format.proofs.Lines.{first_excess-append}
use Rattle.auction_model.specs.Book.{Bidder, Book, BookBid, bidder_of, bidder_with, bids_of, no_bid, no_bidder}
use Rattle.auction_model.specs.Package.{ComesBefore}
use Rattle.auction_model.specs.Entries.{with_entry}
use Rattle.auction_model.specs.PackageTests.{is_before, is_same}
use Rattle.auction_model.proofs.PackageTestLaws.{comes-is_before, is_before-comes, is_before-total, is_same-true}
use Rattle.book_grammar.specs.BookForm.{AreBids, AreBidders, IsBid, empty_package}
use Rattle.book_grammar.specs.BookLines.{Excess, IsBookWithinLimits, bid_excess, bid_lines, bidder_excess, bidder_line, bidder_lines, book_lines}
use Rattle.book_grammar.specs.BookLines.{head_lines, supply_excess}
use Rattle.bid_book.specs.Changes.{CanPut, InPackageOrder, with_bids, with_put, without_bid}
use Rattle.bid_book.specs.Kept.{IsBidBook}
use Rattle.bid_book.specs.Sound.{IsSoundBid, IsSoundBidder}
use Rattle.bid_book.proofs.PackageOrder.{empty_comes, lots_at}
use Rattle.bid_book.proofs.PlaceLaws.{AllBefore, put-taken}
use Rattle.bid_book.proofs.Within.{each_at, kept, sound}
use Rattle.bid_book.proofs.SupplyLaws.{supply_within}

-- ---- the order of packages

-- of three packages, each before the next, the first comes before the last
pub comes-trans : (p q r : List ℕ) → ComesBefore p q → ComesBefore q r → ComesBefore p r
comes-trans [] q r a b = absurd a
comes-trans (x ∷ p) [] r a b = absurd a
comes-trans (x ∷ p) (y ∷ q) [] a b = absurd b
comes-trans (x ∷ p) (y ∷ q) (z ∷ r) (inl a) (inl b) = inl (omega arith)
comes-trans (x ∷ p) (y ∷ q) (z ∷ r) (inl a) (inr b) = inl (omega (arith, b.0))
comes-trans (x ∷ p) (y ∷ q) (z ∷ r) (inr a) (inl b) = inl (omega (arith, a.0))
comes-trans (x ∷ p) (y ∷ q) (z ∷ r) (inr a) (inr b) = inr (a.0 ∙ b.0, comes-trans p q r a.1 b.1)

module _ (supply reserves : List ℕ) where
  -- what comes before the first bid comes before all
  before-all : (before : List ℕ) (bids : List BookBid) (i : ℕ) → AreBids supply reserves before bids → i < length bids
      → ComesBefore before (get_or bids i no_bid).lots
  before-all before [] i are inside = absurd (omega (arith, inside))
  before-all before (b ∷ bids) zero are inside = are.0.after
  before-all before (b ∷ bids) (suc i) are inside = comes-trans before b.lots (get_or bids i no_bid).lots are.0.after
      (before-all b.lots bids i are.1 (omega (arith, inside)))

  -- bids of a book are in order
  pub bids-order : (before : List ℕ) (bids : List BookBid) → AreBids supply reserves before bids → InPackageOrder bids
  bids-order before [] are k i low inside = absurd (omega (arith, inside))
  bids-order before (b ∷ bids) are zero zero low inside = absurd (omega (arith, low))
  bids-order before (b ∷ bids) are zero (suc i) low inside = comes-is_before b.lots (get_or bids i no_bid).lots
      (before-all b.lots bids i are.1 (omega (arith, inside)))
  bids-order before (b ∷ bids) are (suc k) zero low inside = absurd (omega (arith, low))
  bids-order before (b ∷ bids) are (suc k) (suc i) low inside = bids-order b.lots bids are.1 k i (omega (arith, low)) (omega (arith, inside))

  -- after a package that comes earlier they are bids too
  bids-earlier : (first before : List ℕ) (bids : List BookBid) → ComesBefore first before → AreBids supply reserves before bids
      → AreBids supply reserves first bids
  bids-earlier first before [] comes are = tt
  bids-earlier first before (b ∷ bids) comes are = (
    record {
      categories = are.0.categories;
      within = are.0.within;
      after = comes-trans first before b.lots comes are.0.after;
      reserve =
          are.0.reserve;
      top = are.0.top;
    },
    are.1,
  )

  -- one bid less
  pub bids-less : (before : List ℕ) (bids : List BookBid) (place : ℕ) → AreBids supply reserves before bids → AreBids supply reserves before (remove bids place)
  bids-less before [] zero are = tt
  bids-less before [] (suc place) are = tt
  bids-less before (b ∷ bids) zero are = bids-earlier before b.lots bids are.0.after are.1
  bids-less before (b ∷ bids) (suc place) are = (are.0, bids-less b.lots bids place are.1)

  -- a bid put in
  pub bids-put : (before : List ℕ) (bids : List BookBid) (bid : BookBid) → IsBid supply reserves before bid → AreBids supply reserves before bids
      → AreBids supply reserves before (with_entry bid.lots bid.amount bids)
  bids-put before [] bid is are = (is, tt)
  bids-put before (b ∷ bids) bid is are =
      elim (cases_Bool (is_same bid.lots b.lots)) [
        | inl same ↦ rw same (is, subst (λ (p : List ℕ). AreBids supply reserves p bids) (sym (is_same-true bid.lots b.lots same)) are.1)
        | inr apart ↦ elim (cases_Bool (is_before bid.lots b.lots)) [
          | inl early ↦ rw (apart, early) (
            is,
            (
              record {
                categories = are.0.categories;
                within = are.0.within;
                after = is_before-comes bid.lots b.lots
                    (is.categories ∙ sym are.0.categories) early;
                reserve = are.0.reserve;
                top = are.0.top;
              },
              are.1,
            ),
          )
          | inr late ↦
              let after : ComesBefore b.lots bid.lots = is_before-comes b.lots bid.lots (are.0.categories ∙ sym is.categories)
              (is_before-total bid.lots b.lots apart late) in
              rw (apart, late) (
                are.0,
                bids-put b.lots bids bid (record {
                  categories = is.categories;
                  within = is.within;
                  after = after;
                  reserve =
                      is.reserve;
                  top = is.top;
                }) are.1,
              )
        ]
      ]

  -- ---- the bidders

  -- the names of the bidders before are all that counts of them
  unused-same : (earlier others : List Bidder) (name : List ℕ) → map (λ (b : Bidder). b.name) earlier ≡ map (λ (b : Bidder). b.name) others
      → AllByRecursion (λ (b : Bidder). b.name ≢ name) earlier → AllByRecursion (λ (b : Bidder). b.name ≢ name) others
  unused-same earlier [] name same all = tt
  unused-same [] (o ∷ others) name same all = absurd (cc same)
  unused-same (e ∷ earlier) (o ∷ others) name same all = (λ own. all.0 (cc (same, own)), unused-same earlier others name (cc same) all.1)

  names-push : (earlier others : List Bidder) (b c : Bidder) → map (λ (b : Bidder). b.name) earlier ≡ map (λ (b : Bidder). b.name) others → b.name ≡ c.name
      → map (λ (b : Bidder). b.name) (earlier ++ b ∷ []) ≡ map (λ (b : Bidder). b.name) (others ++ c ∷ [])
  names-push [] [] b c same own = ap (λ (n : List ℕ). n ∷ []) own
  names-push [] (o ∷ others) b c same own = absurd (cc same)
  names-push (e ∷ earlier) [] b c same own = absurd (cc same)
  names-push (e ∷ earlier) (o ∷ others) b c same own = cc (same, names-push earlier others b c (cc same) own)

  bidders-behind : (earlier others bs : List Bidder) → map (λ (b : Bidder). b.name) earlier ≡ map (λ (b : Bidder). b.name) others
      → AreBidders supply reserves earlier bs → AreBidders supply reserves others bs
  bidders-behind earlier others [] same are = tt
  bidders-behind earlier others (b ∷ bs) same are = (
    record { name = are.0.name; unused = unused-same earlier others b.name same are.0.unused; bids = are.0.bids },
    bidders-behind (earlier ++ b ∷ []) (others ++ b ∷ []) bs (names-push earlier others b b same refl) are.1,
  )

  -- one of them has other bids
  pub bidders-set : (earlier bs : List Bidder) (k : ℕ) (bids : List BookBid) (d : Bidder) → k < length bs
      → AreBids supply reserves (empty_package supply) bids → AreBidders supply reserves earlier bs → AreBidders supply reserves earlier
      (set bs k (bidder_with (get_or bs k d).name bids))
  bidders-set earlier [] k bids d inside own are = absurd (omega (arith, inside))
  bidders-set earlier (b ∷ bs) zero bids d inside own are =
      let new = bidder_with b.name bids in (
        record { name = are.0.name; unused = are.0.unused; bids = own },
        bidders-behind (earlier ++ b ∷ []) (earlier ++ new ∷ []) bs
            (names-push earlier earlier b new refl refl) are.1,
      )
  bidders-set earlier (b ∷ bs) (suc k) bids d inside own are = (are.0, bidders-set (earlier ++ b ∷ []) bs k bids d (omega (arith, inside)) own are.1)

  -- the bids of each
  pub bids-at : (earlier bs : List Bidder) (k : ℕ) (d : Bidder) → k < length bs → AreBidders supply reserves earlier bs
      → AreBids supply reserves (empty_package supply) (get_or bs k d).bids
  bids-at earlier [] k d inside are = absurd (omega (arith, inside))
  bids-at earlier (b ∷ bs) zero d inside are = are.0.bids
  bids-at earlier (b ∷ bs) (suc k) d inside are = bids-at (earlier ++ b ∷ []) bs k d (omega (arith, inside)) are.1

-- ---- the limits

bids-few : (before : ℕ) (bids : List BookBid) → before + length bids ≤ 600 → first_excess (bid_lines before bids) ≡ None
bids-few before [] few = refl
bids-few before (b ∷ bids) few =
    let here : bid_excess (before + 1) ≡ None = grind (arith, nat_tests) in
    rw here (bids-few (before + 1) bids (omega arith))

abbrev pub HasFew : Bidder → Type 0
HasFew b = length b.bids ≤ 600

bidders-few : (before : ℕ) (bidders : List Bidder) → before + length bidders ≤ 16 → AllByRecursion HasFew bidders
    → first_excess (bidder_lines before bidders) ≡ None
bidders-few before [] few each = refl
bidders-few before (b ∷ bidders) few each =
    let here : bidder_excess (before + 1) ≡ None = grind (arith, nat_tests) in
    let own : first_excess (bidder_line before b.name ∷ bid_lines 0 b.bids) ≡ None = rw here (bids-few 0 b.bids (omega (arith, each.0))) in
    first_excess-append (bidder_line before b.name ∷ bid_lines 0 b.bids) (bidder_lines (before + 1) bidders)
    ∙ ap (λ (o : Option Excess). option_or o (first_excess (bidder_lines (before + 1) bidders))) own
    ∙ bidders-few (before + 1) bidders (omega arith) each.1

-- no line of a book exceeds a limit if its supply and its counts don't
pub lines-within : (book : Book) → supply_excess book.supply ≡ None → length book.bidders ≤ 16 → AllByRecursion HasFew book.bidders
    → first_excess (book_lines book) ≡ None
lines-within book supply few each =
    let head : first_excess (head_lines book) ≡ None = rw supply refl in
    first_excess-append (head_lines book ++ bidder_lines 0 book.bidders) ((codes "end", None) ∷ [])
    ∙ ap (λ (o : Option Excess). option_or o None)
    (first_excess-append (head_lines book) (bidder_lines 0 book.bidders) ∙ ap (λ (o : Option Excess). option_or o
    (first_excess (bidder_lines 0 book.bidders))) head ∙ bidders-few 0 book.bidders (omega (arith, few)) each)

few-each : (supply reserves : List ℕ) (bs : List Bidder) → AllByRecursion (IsSoundBidder supply reserves) bs → AllByRecursion HasFew bs
few-each supply reserves [] all = tt
few-each supply reserves (b ∷ bs) all = (omega (arith, all.0.few), few-each supply reserves bs all.1)

few-set : (bs : List Bidder) (k : ℕ) (new : Bidder) → HasFew new → AllByRecursion HasFew bs → AllByRecursion HasFew (set bs k new)
few-set [] k new own all = tt
few-set (b ∷ bs) zero new own all = (own, all.1)
few-set (b ∷ bs) (suc k) new own all = (all.0, few-set bs k new own all.1)

-- ---- the rules

module _ (book : Book) (j : ℕ) (is : IsBookWithinLimits book) (some : 0 < j) (known : j ≤ length book.bidders) where
  all_kept : IsBidBook book
  all_kept = kept book is

  -- the bids of a bidder
  pub book-bids : AreBids book.supply book.reserves (empty_package book.supply) (bids_of book j)
  book-bids = bids-at book.supply book.reserves [] book.bidders (j - 1) no_bidder (omega arith) is.form.bidders

  -- the bids of a bidder are in the order of packages
  pub book-order : InPackageOrder (bids_of book j)
  book-order = bids-order book.supply book.reserves (empty_package book.supply) (bids_of book j) book-bids

  -- a bidder with other bids, which are bids and not too many
  pub bids-within : (bids : List BookBid) → AreBids book.supply book.reserves (empty_package book.supply) bids → length bids ≤ 600
      → IsBookWithinLimits (with_bids book j bids)
  bids-within bids are few = record {
    form = record {
      supply = is.form.supply;
      reserves = is.form.reserves;
      bidders = bidders-set book.supply book.reserves [] book.bidders (j - 1) bids no_bidder (omega arith) are is.form.bidders;
    };
    limits = lines-within (with_bids book j bids) (supply_within book.supply all_kept.supply)
        (omega (arith, all_kept.bidders, length-set {A = Bidder}))
        (few-set book.bidders (j - 1) (bidder_with (bidder_of book j).name bids) few (few-each book.supply book.reserves book.bidders (sound book is)));
  }

-- that many bids there are
entry-count : (lots : List ℕ) (amount : ℕ) (bids : List BookBid) → length (with_entry lots amount bids) ≤ length bids + 1
entry-count lots amount [] = omega arith
entry-count lots amount (b ∷ bids) =
    elim (cases_Bool (is_same lots b.lots)) [
      | inl same ↦ rw same (omega arith)
      | inr apart ↦ elim (cases_Bool (is_before lots b.lots)) [
        | inl early ↦ rw (apart, early) (omega arith)
        | inr late ↦ rw (apart, late) (omega (arith, entry-count lots amount bids))
      ]
    ]

-- if there is a bid for the package, as many as before
entry-same : (bids : List BookBid) (lots : List ℕ) (amount i : ℕ) → InPackageOrder bids → i < length bids → (get_or bids i no_bid).lots ≡ lots
    → length (with_entry lots amount bids) ≡ length bids
entry-same bids lots amount i order inside here =
    let before : AllBefore bids lots i = λ k low. subst (λ (p : List ℕ). is_before (get_or bids k no_bid).lots p ≡ true) here (order k i low inside) in
    ap (λ (l : List BookBid). length l) (put-taken bids lots amount i before inside here) ∙ length-set bids i (record { lots = lots; amount = amount })

-- the rules hold with a bid put in
pub put-within : (book : Book) (j : ℕ) (bid : BookBid) → IsBookWithinLimits book → CanPut book j bid → IsBookWithinLimits (with_put book j bid)
put-within book j bid is can =
    let bids = bids_of book j in
    let put = with_entry bid.lots bid.amount bids in
    let first : ComesBefore (empty_package book.supply) bid.lots = subst (λ (n : ℕ). ComesBefore (replicate n 0) bid.lots) can.categories
    (empty_comes bid.lots can.lots) in
    let few : length put ≤ 600 =
    elim can.room [
      | inl has ↦
          let here : (get_or bids (has.0 - 1) no_bid).lots ≡ bid.lots = sym (lots_at book j has.0 has.1.some) ∙ has.1.own in
          let inside : has.0 - 1 < length bids = omega (arith, has.1.some, has.1.known) in
          let most : length bids ≤ 600 = (kept book is).bids j in
          omega (arith, most, entry-same bids bid.lots bid.amount (has.0 - 1) (book-order book j is can.some can.known) inside here)
      | inr room ↦ omega (arith, room, entry-count bid.lots bid.amount bids)
    ] in
    bids-within book j is can.some can.known put
    (bids-put book.supply book.reserves (empty_package book.supply) bids bid (record
    { categories = can.categories; within = can.within; after = first; reserve = can.reserve; top = can.top }) (book-bids book j is can.some can.known))
    few

-- and without a bid
pub less-within : (book : Book) (j i : ℕ) → IsBookWithinLimits book → 0 < j → j ≤ length book.bidders → 0 < i → i ≤ length (bids_of book j)
    → IsBookWithinLimits (without_bid book j i)
less-within book j i is some known first last =
    let bids = bids_of book j in
    let most : length bids ≤ 600 = (kept book is).bids j in
    let inside : i - 1 < length bids = omega (arith, first, last) in
    bids-within book j is some known (remove bids (i - 1)) (bids-less book.supply book.reserves (empty_package book.supply) bids (i - 1)
    (book-bids book j is some known))
    (omega (arith, most, length-remove bids (i - 1) inside))

-- a bid that was put in keeps the rules
entry-holds : (P : BookBid → Type 0) (lots : List ℕ) (amount : ℕ) (bids : List BookBid) → AllByRecursion P (with_entry lots amount bids)
    → P (record { lots = lots; amount = amount })
entry-holds P lots amount [] all = all.0
entry-holds P lots amount (b ∷ bids) all =
    elim (cases_Bool (is_same lots b.lots)) [
      | inl same ↦ let here = rw same at all in here.0
      | inr apart ↦ elim (cases_Bool (is_before lots b.lots)) [
        | inl early ↦ let here = rw (apart, early) at all in here.0
        | inr late ↦ let here = rw (apart, late) at all in entry-holds P lots amount bids here.1
      ]
    ]

-- if a book keeps its rules with a bid put in, that bid keeps them, whatever bids come before it
pub put-sound : (book : Book) (j : ℕ) (bid : BookBid) → 0 < j → j ≤ length book.bidders → IsBookWithinLimits (with_put book j bid)
    → IsSoundBid book.supply book.reserves bid
put-sound book j bid some known is =
    let new = bidder_with (bidder_of book j).name (with_entry bid.lots bid.amount (bids_of book j)) in
    let inside : j - 1 < length book.bidders = omega (arith, some, known) in
    let place : j - 1 < length (set book.bidders (j - 1) new) = omega (arith, inside, length-set book.bidders (j - 1) new) in
    let at : IsSoundBidder book.supply book.reserves (get_or (set book.bidders (j - 1) new) (j - 1) no_bidder) =
    each_at (IsSoundBidder book.supply book.reserves) (set book.bidders (j - 1) new) (j - 1) no_bidder (sound (with_put book j bid) is) place in
    let own : IsSoundBidder book.supply book.reserves new = subst (IsSoundBidder book.supply book.reserves)
    (get_or-set_same book.bidders (j - 1) new no_bidder inside) at in
    entry-holds (IsSoundBid book.supply book.reserves) bid.lots bid.amount (bids_of book j) own.each
