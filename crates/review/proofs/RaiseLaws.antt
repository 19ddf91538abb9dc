-- The winning choice goes on to be one if a bid is raised that it uses.
use Rattle.std.specs.Prelude.{◌≡◌, ◌≢◌, ℕ, zero, suc, ◌-◌, ◌≤◌, ◌<◌, IsTrue, List, [], ◌∷◌, length, get_or, ℤ, pos, ◌+ℤ◌, ◌-ℤ◌, ◌≤ℤ◌, refl}
use Rattle.std.proofs.Common.{inl, inr, set, sym, ◌∙◌, ap, subst, arith}
use Rattle.std.proofs.Math.ListN.{length-set}
use Rattle.std.proofs.lemmas.Bool.{cases_eq}
use Rattle.std.proofs.lemmas.Int.{ints}
use Rattle.std.proofs.lemmas.List.{get_or-set_other, get_or-set_same}
use Rattle.auction_model.specs.Book.{Bidder, Book, BookBid, bid_of, bidder_of, bidder_with, bids_of, lots_of, market_of, menu_of, net_of, no_bid}
use Rattle.auction_model.specs.Book.{no_bidder}
use Rattle.auction_model.specs.Greatest.{IsFirstGreatest, IsWinning}
use Rattle.auction_model.specs.Market.{number_of, sum_after}
use Rattle.auction_model.specs.Menu.{Menu, fits_after}
use Rattle.auction_model.specs.Package.{cost_of}
use Rattle.bid_book.specs.Changes.{with_bids}
use Rattle.value_table.proofs.TurnLaws.{known-same, taken-same}
use Rattle.review.proofs.BidNumbers.{at, bid-at, net-at, worth_of}
use Rattle.review.proofs.EditedLines.{bidders-same, net-other}
use Rattle.review.proofs.KeepLaws.{own-bid}

-- one bid of bidder j is worth more by the gain, and all else is the same
pub record IsRaised (m o : Menu) (worth other : ℕ → ℕ → ℤ) (j number : ℕ) (gain : ℤ) : Type 0 where
  pub bidders : m.bidders ≡ o.bidders
  pub bids : (q : ℕ) → m.bids q ≡ o.bids q
  pub lots : (q i : ℕ) → m.lots q i ≡ o.lots q i
  pub not_less : pos 0 ≤ℤ gain
  pub others : (q i : ℕ) → 0 < q → q ≢ j → other q i ≡ worth q i
  pub own : (i : ℕ) → i ≢ number → other j i ≡ worth j i
  pub raised : other j number ≡ worth j number +ℤ gain

module _ (m o : Menu) (worth other : ℕ → ℕ → ℤ) (j number : ℕ) (gain : ℤ) (are : IsRaised m o worth other j number gain) where
  sum-past : (k : ℕ) (c : List ℕ) → j ≤ k → sum_after other k c ≡ sum_after worth k c
  sum-past k [] past = refl
  sum-past k (i ∷ c) past =
      let own : other (suc k) i ≡ worth (suc k) i = are.others (suc k) i (omega arith) (λ e. absurd (omega (arith, past, e))) in
      omega (arith, ints, own, sum-past (suc k) c (omega (arith, past)))

  sum-most : (k : ℕ) (c : List ℕ) → sum_after other k c ≤ℤ (sum_after worth k c +ℤ gain)
  sum-most k [] = omega (arith, ints, are.not_less)
  sum-most k (i ∷ c) =
      elim (cases_eq (suc k) j) [
        | inl here ↦
            let rest = sum-past (suc k) c (omega (arith, here)) in
            elim (cases_eq i number) [
              | inl same ↦
                  let own : other (suc k) i ≡ worth (suc k) i +ℤ gain = rw (here, same) are.raised in
                  omega (arith, ints, own, rest)
              | inr apart ↦
                  let own : other (suc k) i ≡ worth (suc k) i = rw here (are.own i apart) in
                  omega (arith, ints, own, rest, are.not_less)
            ]
        | inr else ↦
            let own : other (suc k) i ≡ worth (suc k) i = are.others (suc k) i (omega arith) else in
            omega (arith, ints, own, sum-most (suc k) c)
      ]

  sum-own : (k n : ℕ) (c : List ℕ) → n ≡ j - suc k → k < j → 0 < number → get_or c n 0 ≡ number → sum_after other k c ≡ sum_after worth k c +ℤ gain
  sum-own k n [] place low some is = absurd (omega (arith, some, is))
  sum-own k zero (i ∷ c) place low some is =
      let here : suc k ≡ j = omega (arith, place, low) in
      let own : other (suc k) i ≡ worth (suc k) i +ℤ gain = rw (here, is) are.raised in
      omega (arith, ints, own, sum-past (suc k) c (omega (arith, here)))
  sum-own k (suc n) (i ∷ c) place low some is =
      let own : other (suc k) i ≡ worth (suc k) i = are.others (suc k) i (omega arith) (λ e. absurd (omega (arith, place, e))) in
      omega (arith, ints, own, sum-own (suc k) n c (omega (arith, place)) (omega (arith, place)) some is)

  fits-same : (supply c : List ℕ) → IsTrue (fits_after m 0 supply c) ≡ IsTrue (fits_after o 0 supply c)
  fits-same supply c = rw (known-same m o 0 c are.bidders (λ q low. are.bids q), taken-same m o 0 c are.lots) refl

  -- a choice that uses the bid gains most, so the first of the greatest goes on to be it
  pub chosen-stays : (supply c : List ℕ) → 0 < j → 0 < number → get_or c (j - 1) 0 ≡ number → IsFirstGreatest (fits_after m 0 supply) (sum_after worth 0) c
      → IsFirstGreatest (fits_after o 0 supply) (sum_after other 0) c
  chosen-stays supply c some first is g =
      let own = sum-own 0 (j - 1) c refl some first is in
      let back : (d : List ℕ) → IsTrue (fits_after o 0 supply d) → IsTrue (fits_after m 0 supply d) =
      λ d t. subst (λ (T : Type 0). T) (sym (fits-same supply d)) t in
      record {
        passed = subst (λ (T : Type 0). T) (fits-same supply c) g.passed;
        greatest = λ d t. omega (arith, ints, own, sum-most 0 d, g.greatest d (back d t));
        first = λ d t early. omega (arith, ints, own, sum-most 0 d, g.first d (back d t) early);
      }

-- ---- a bid of a book with another amount

module _ (book : Book) (j number : ℕ) (bid : BookBid) (some : 0 < j) (inside : j ≤ length book.bidders) (first : 0 < number)
    (known : number ≤ length (bids_of book j)) (lots : (get_or (bids_of book j) (number - 1) no_bid).lots ≡ bid.lots) where
  bids-at : (k : ℕ) → length (get_or book.bidders k no_bidder).bids ≡ length (get_or
      (set book.bidders (j - 1) (bidder_with (bidder_of book j).name (set (bids_of book j) (number - 1) bid))) k no_bidder).bids
  bids-at k =
      let new = bidder_with (bidder_of book j).name (set (bids_of book j) (number - 1) bid) in
      elim (cases_eq k (j - 1)) [
        | inl same ↦
            ap (λ (n : ℕ). length (get_or book.bidders n no_bidder).bids) same
            ∙ sym (length-set (bids_of book j) (number - 1) bid)
            ∙ sym (ap (λ (b : Bidder). length b.bids) (get_or-set_same book.bidders (j - 1) new no_bidder (omega (arith, some, inside))))
            ∙ sym (ap (λ (n : ℕ). length (get_or (set book.bidders (j - 1) new) n no_bidder).bids) same)
        | inr other ↦ sym (ap (λ (b : Bidder). length b.bids) (get_or-set_other book.bidders (j - 1) k new no_bidder other))
      ]

  lots-own : (i : ℕ) → (get_or (bids_of book j) i no_bid).lots ≡ (get_or (set (bids_of book j) (number - 1) bid) i no_bid).lots
  lots-own i =
      elim (cases_eq i (number - 1)) [
        | inl place ↦
            ap (λ (n : ℕ). (get_or (bids_of book j) n no_bid).lots) place ∙ lots
            ∙ sym (ap (λ (b : BookBid). b.lots) (get_or-set_same (bids_of book j) (number - 1) bid no_bid (omega (arith, first, known))))
            ∙ sym (ap (λ (n : ℕ). (get_or (set (bids_of book j) (number - 1) bid) n no_bid).lots) place)
        | inr apart ↦ sym (ap (λ (b : BookBid). b.lots) (get_or-set_other (bids_of book j) (number - 1) i bid no_bid apart))
      ]

  lots-at : (k i : ℕ) → (get_or (get_or book.bidders k no_bidder).bids i no_bid).lots ≡
      (get_or (get_or (set book.bidders (j - 1) (bidder_with (bidder_of book j).name (set (bids_of book j) (number - 1) bid))) k no_bidder).bids i no_bid).lots
  lots-at k i =
      let new = bidder_with (bidder_of book j).name (set (bids_of book j) (number - 1) bid) in
      elim (cases_eq k (j - 1)) [
        | inl same ↦
            ap (λ (n : ℕ). (get_or (get_or book.bidders n no_bidder).bids i no_bid).lots) same
            ∙ lots-own i
            ∙ sym (ap (λ (b : Bidder). (get_or b.bids i no_bid).lots) (get_or-set_same book.bidders (j - 1) new no_bidder (omega (arith, some, inside))))
            ∙ sym (ap (λ (n : ℕ). (get_or (get_or (set book.bidders (j - 1) new) n no_bidder).bids i no_bid).lots) same)
        | inr other ↦ sym (ap (λ (b : Bidder). (get_or b.bids i no_bid).lots) (get_or-set_other book.bidders (j - 1) k new no_bidder other))
      ]

  lots-kept : (q i : ℕ) → lots_of book q i ≡ lots_of (with_bids book j (set (bids_of book j) (number - 1) bid)) q i
  lots-kept q zero = refl
  lots-kept q (suc i) = lots-at (q - 1) i

  bid-now : (i : ℕ) → bid_of (with_bids book j (set (bids_of book j) (number - 1) bid)) j i ≡ at (set (bids_of book j) (number - 1) bid) i
  bid-now i = own-bid book j (set (bids_of book j) (number - 1) bid) some inside i

  at-apart : (i : ℕ) → i ≢ number → at (set (bids_of book j) (number - 1) bid) i ≡ at (bids_of book j) i
  at-apart zero apart = refl
  at-apart (suc i) apart = get_or-set_other (bids_of book j) (number - 1) i bid no_bid (λ e. apart (omega (arith, e, first)))

  at-own : (n : ℕ) → n ≡ number → at (set (bids_of book j) (number - 1) bid) n ≡ bid
  at-own zero is = absurd (omega (arith, is, first))
  at-own (suc n) is =
      let place : n ≡ number - 1 = omega (arith, is) in
      ap (λ (k : ℕ). get_or (set (bids_of book j) (number - 1) bid) k no_bid) place ∙ get_or-set_same (bids_of book j) (number - 1) bid no_bid
      (omega (arith, first, known))

  at-was : (n : ℕ) → n ≡ number → at (bids_of book j) n ≡ get_or (bids_of book j) (number - 1) no_bid
  at-was zero is = absurd (omega (arith, is, first))
  at-was (suc n) is = ap (λ (k : ℕ). get_or (bids_of book j) k no_bid) (omega (arith, is))

  -- a bid that the winning choice uses is raised
  pub raised-winning : (choice : List ℕ) → (get_or (bids_of book j) (number - 1) no_bid).amount ≤ bid.amount → number_of choice j ≡ number
      → IsWinning (market_of book) choice → IsWinning (market_of (with_bids book j (set (bids_of book j) (number - 1) bid))) choice
  raised-winning choice higher is g =
      let new = with_bids book j (set (bids_of book j) (number - 1) bid) in
      let was = get_or (bids_of book j) (number - 1) no_bid in
      let gain = pos bid.amount -ℤ pos was.amount in
      let cost_same : cost_of book.reserves was.lots ≡ cost_of book.reserves bid.lots = ap (cost_of book.reserves) lots in
      let now_net : net_of new j number ≡ worth_of book.reserves bid = net-at new j number ∙ ap (worth_of book.reserves)
      (bid-now number ∙ at-own number refl) in
      let was_net : net_of book j number ≡ worth_of book.reserves was = net-at book j number ∙ ap (worth_of book.reserves)
      (bid-at book j number ∙ at-was number refl) in
      chosen-stays (menu_of book) (menu_of new) (net_of book) (net_of new) j number gain
      (record {
        bidders = sym (bidders-same book j (set (bids_of book j) (number - 1) bid) some);
        bids = λ q. bids-at (q - 1);
        lots = lots-kept;
        not_less = omega (arith, ints, higher);
        others = λ q i low apart. net-other book j (set (bids_of book j) (number - 1) bid) some q i low apart;
        own = λ i apart. net-at new j i ∙ ap (worth_of book.reserves) (bid-now i ∙ at-apart i apart ∙ sym (bid-at book j i)) ∙ sym (net-at book j i);
        raised = omega (arith, ints, now_net, was_net, cost_same);
      }) book.supply choice some first is g
