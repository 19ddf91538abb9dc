-- The winning choice goes on to be one if a bid is put in that is beaten, and if one is taken out that it doesn't use.
use Rattle.std.specs.Prelude.{◌≡◌, ◌≢◌, ◌⊎◌, ℕ, suc, ◌+◌, ◌-◌, ◌≤◌, ◌<◌, true, IsTrue, None, List, length, get_or, ℤ, ◌-ℤ◌, ◌<ℤ◌, refl}
use Rattle.std.proofs.Common.{inl, inr, set, sym, ◌∙◌, ap, subst, arith}
use Rattle.std.specs.List.{insert, remove}
use Rattle.std.proofs.Math.ListN.{length-set}
use Rattle.std.proofs.lemmas.Bool.{cases_eq}
use Rattle.std.proofs.lemmas.List.{get_or-set_same, set-get_or}
use Rattle.std.proofs.lemmas.List.Edits.{get_or-insert_at}
use Rattle.auction_model.specs.Book.{Bidder, Book, BookBid, bid_of, bidder_of, bidder_with, bids_of, lots_of, market_of, menu_of, net_of, no_bid}
use Rattle.auction_model.specs.Book.{no_bidder}
use Rattle.auction_model.specs.Entries.{with_entry, without_entry}
use Rattle.auction_model.specs.Greatest.{IsWinning}
use Rattle.auction_model.specs.Market.{number_of, sum_after, value_of}
use Rattle.auction_model.specs.Menu.{fits_after, is_known_after}
use Rattle.auction_model.specs.Table.{IsLine}
use Rattle.auction_model.proofs.ChoiceLaws.{known-length, known-of}
use Rattle.auction_model.proofs.BookMarket.{fits-known}
use Rattle.bid_book.specs.Changes.{InPackageOrder, IsBidFor, with_bids, with_put}
use Rattle.auction_model.specs.PackageTests.{is_before}
use Rattle.bid_book.proofs.PackageOrder.{lots_at}
use Rattle.bid_book.proofs.PlaceLaws.{put-taken}
use Rattle.value_table.specs.SideLines.{IsLeftLine, IsRightLine}
use Rattle.value_table.proofs.LineLaws.{line-turned}
use Rattle.review.specs.Edits.{amount_for}
use Rattle.review.specs.Reviewed.{AreBelow, IsBeaten, moved_down, moved_up}
use Rattle.review.proofs.BidNumbers.{GonePair, OwnPairs, PutPair, SetPair, Shifted, at, bid-at, down-shifted, gone-pairs, gone-pick, net-at, put-in}
use Rattle.review.proofs.BidNumbers.{put-pairs, put-pick, set-pairs, up-shifted, worth_of}
use Rattle.review.proofs.EditedLines.{bidders-same, count-other, left-stays, lots-other, net-other, right-stays}
use Rattle.review.proofs.Pairing.{ButFor, Pairing, has-match, set-matched, stays}
use Rattle.review.proofs.RemoveLaws.{without-removed}
use Rattle.review.proofs.WithBid.{below-limit}

module _ (book : Book) (j : ℕ) (bids : List BookBid) (some : 0 < j) (inside : j ≤ length book.bidders) where
  -- the bidder has these bids
  pub own-bids : bids_of (with_bids book j bids) j ≡ bids
  own-bids = ap (λ (b : Bidder). b.bids) (get_or-set_same book.bidders (j - 1) (bidder_with (bidder_of book j).name bids) no_bidder
      (omega (arith, some, inside)))

  pub own-bid : (h : ℕ) → bid_of (with_bids book j bids) j h ≡ at bids h
  own-bid h = bid-at (with_bids book j bids) j h ∙ ap (λ (l : List BookBid). at l h) own-bids

  module _ (Own : ℕ → ℕ → Type 0) (own : OwnPairs (bids_of book j) bids Own) where
    pair-bid : (g h : ℕ) → Own g h → bid_of book j g ≡ bid_of (with_bids book j bids) j h
    pair-bid g h o = bid-at book j g ∙ own.same g h o ∙ sym (own-bid h)

    pair-known : (k g h : ℕ) → ButFor j Own (menu_of book).bids (suc k) g h → (g ≤ length (bids_of book (suc k)))
        × (h ≤ length (bids_of (with_bids book j bids) (suc k)))
    pair-known k g h (inl p) =
        subst (λ (q : ℕ). (g ≤ length (bids_of book q)) × (h ≤ length (bids_of (with_bids book j bids) q))) (sym p.0)
        ((own.known g h p.1).0, subst (λ (l : List BookBid). h ≤ length l) (sym own-bids) (own.known g h p.1).1)
    pair-known k g h (inr p) = (omega (arith, p.1.0, p.1.1), omega (arith, p.1.1, count-other book j bids some (suc k) (omega arith) p.0))

    pair-lots : (k g h : ℕ) → ButFor j Own (menu_of book).bids (suc k) g h → lots_of book (suc k) g ≡ lots_of (with_bids book j bids) (suc k) h
    pair-lots k g h (inl p) = subst (λ (q : ℕ). lots_of book q g ≡ lots_of (with_bids book j bids) q h) (sym p.0)
        (ap (λ (b : BookBid). b.lots) (pair-bid g h p.1))
    pair-lots k g h (inr p) = ap (lots_of book (suc k)) p.1.0 ∙ sym (lots-other book j bids some (suc k) h (omega arith) p.0)

    pair-net : (k g h : ℕ) → ButFor j Own (menu_of book).bids (suc k) g h → net_of book (suc k) g ≡ net_of (with_bids book j bids) (suc k) h
    pair-net k g h (inl p) =
        subst (λ (q : ℕ). net_of book q g ≡ net_of (with_bids book j bids) q h) (sym p.0)
        (net-at book j g ∙ ap (worth_of book.reserves) (pair-bid g h p.1) ∙ sym (net-at (with_bids book j bids) j h))
    pair-net k g h (inr p) = ap (net_of book (suc k)) p.1.0 ∙ sym (net-other book j bids some (suc k) h (omega arith) p.0)

    -- numbers of all bidders go together
    pub all-pairs : Pairing (menu_of book) (menu_of (with_bids book j bids)) (net_of book) (net_of (with_bids book j bids)) (ButFor j Own (menu_of book).bids)
    all-pairs = record {
      bidders = sym (bidders-same book j bids some);
      known = pair-known;
      lots = pair-lots;
      worths = pair-net;
      order = λ k g h e f p q t.
          elim p [
            | inl a ↦ elim q [ inl b ↦ own.order g h e f a.1 b.1 t | inr b ↦ absurd (b.0 a.0) ]
            | inr a ↦ elim q [ inl b ↦ absurd (a.0 b.0) | inr b ↦ rw (a.1.0, b.1.0) t ]
          ];
      one = λ k g h e p q.
          elim p [
            | inl a ↦ elim q [ inl b ↦ own.one g h e a.1 b.1 | inr b ↦ absurd (b.0 a.0) ]
            | inr a ↦ elim q [ inl b ↦ absurd (a.0 b.0) | inr b ↦ a.1.0 ∙ sym b.1.0 ]
          ];
    }

    -- so the winning choice with the number that its bid has now is the winning one, if each other choice goes with one of
    -- before or is worth less
    pub goes-on : (choice : List ℕ) (h : ℕ) → IsWinning (market_of book) choice → Own (number_of choice j) h
        → ((d : List ℕ) → IsTrue (fits_after (menu_of (with_bids book j bids)) 0 book.supply d) → ((g : ℕ) × Own g (number_of d j))
        ⊎ (sum_after (net_of (with_bids book j bids)) 0 d <ℤ value_of (market_of book) choice))
        → IsWinning (market_of (with_bids book j bids)) (set choice (j - 1) h)
    goes-on choice h g pair all =
        let m = menu_of book in
        let o = menu_of (with_bids book j bids) in
        let known : IsTrue (is_known_after m 0 choice) = fits-known m book.supply choice g.passed in
        stays m o (net_of book) (net_of (with_bids book j bids)) (ButFor j Own m.bids) all-pairs book.supply choice (set choice (j - 1) h) g
        (set-matched m j Own 0 h (j - 1) choice refl some inside known pair)
        (λ d t. elim (all d t) [
          | inl own_pair ↦
              inl (has-match m j Own o 0 d (λ q first other. sym (count-other book j bids some q first other)) (fits-known o book.supply d t) (λ low. own_pair))
          | inr less ↦ inr less
        ])

-- a choice with a bid that is beaten is worth less
beaten-less : (book : Book) (j : ℕ) (bids : List BookBid) (bid : BookBid) (choice d : List ℕ) (h : ℕ) → 0 < j → j ≤ length book.bidders
    → IsBeaten book choice j bid → bid_of (with_bids book j bids) j h ≡ bid
    → number_of d j ≡ h → IsTrue (fits_after (menu_of (with_bids book j bids)) 0 book.supply d) → sum_after (net_of (with_bids book j bids)) 0 d <ℤ value_of
    (market_of book) choice
beaten-less book j bids bid choice d h some inside beaten own is t =
    let new = with_bids book j bids in
    let m = menu_of new in
    let limit = value_of (market_of book) choice in
    let up : suc (j - 1) ≡ j = omega (arith, some) in
    let known : j ≤ length new.bidders = omega (arith, inside, bidders-same book j bids some) in
    let left : IsLeftLine new (j - 1) beaten.before = left-stays book j bids some (j - 1) beaten.before (omega (arith, some)) inside beaten.left in
    let right : IsRightLine new j beaten.after = right-stays book j bids some j beaten.after (omega arith) beaten.right in
    let lefts = line-turned new (j - 1) beaten.before (omega (arith, known)) left in
    let rights : IsLine m (net_of new) book.supply (suc (j - 1)) beaten.after = subst (λ (k : ℕ). IsLine m (net_of new) book.supply k beaten.after)
    (sym up) right in
    let lots : bid.lots ≡ lots_of new j h = ap (λ (b : BookBid). b.lots) (sym own) in
    let net : worth_of book.reserves bid ≡ net_of new j h = ap (worth_of book.reserves) (sym own) ∙ sym (net-at new j h) in
    let below_own : AreBelow book.supply (lots_of new j h) beaten.before beaten.after (limit -ℤ net_of new j h) =
    subst (λ (z : ℤ). AreBelow book.supply (lots_of new j h) beaten.before beaten.after (limit -ℤ z)) net
    (subst (λ (l : List ℕ). AreBelow book.supply l beaten.before beaten.after (limit -ℤ worth_of book.reserves bid)) lots beaten.below) in
    let below : AreBelow book.supply (lots_of new (suc (j - 1)) h) beaten.before beaten.after (limit -ℤ net_of new (suc (j - 1)) h) =
    subst (λ (k : ℕ). AreBelow book.supply (lots_of new k h) beaten.before beaten.after (limit -ℤ net_of new k h)) (sym up) below_own in
    below-limit m (net_of new) book.supply (j - 1) h limit (omega (arith, known, some)) beaten.before beaten.after lefts rights below d is t

-- a number of the new bids
new-known : (book : Book) (j : ℕ) (bids : List BookBid) → 0 < j → j ≤ length book.bidders → (d : List ℕ)
    → IsTrue (fits_after (menu_of (with_bids book j bids)) 0 book.supply d) → number_of d j ≤ length bids
new-known book j bids some inside d t =
    let new = with_bids book j bids in
    let known : IsTrue (is_known_after (menu_of new) 0 d) = fits-known (menu_of new) book.supply d t in
    let long : j - 1 < length d = omega (arith, some, inside, bidders-same book j bids some, known-length (menu_of new) 0 d known) in
    let up : j - 1 + 1 ≡ j = omega (arith, some) in
    let low : number_of d j ≤ length (bids_of new j) = subst (λ (k : ℕ). number_of d j ≤ length (bids_of new k)) up
    (known-of (menu_of new) d (j - 1) known long) in
    subst (λ (l : List BookBid). number_of d j ≤ length l) (own-bids book j bids some inside) low

-- the place before a number
number-up : (n : ℕ) → 0 < n → suc (n - 1) ≡ n
number-up n some = omega (arith, some)

module _ (book : Book) (j : ℕ) (choice : List ℕ) (number : ℕ) (some : 0 < j) (inside : j ≤ length book.bidders)
    (winning : IsWinning (market_of book) choice) where
  pub number-known : number_of choice j ≤ length (bids_of book j)
  number-known =
      let known : IsTrue (is_known_after (menu_of book) 0 choice) = fits-known (menu_of book) book.supply choice winning.passed in
      let long : j - 1 < length choice = omega (arith, some, inside, known-length (menu_of book) 0 choice known) in
      subst (λ (k : ℕ). number_of choice j ≤ length (bids_of book k)) (omega (arith, some)) (known-of (menu_of book) choice (j - 1) known long)

  -- a bid for a package for which there was none is put in, and is beaten
  pub add-stays : (lots : List ℕ) (amount : ℕ) → amount_for lots (bids_of book j) ≡ None → IsBeaten book choice j (record { lots = lots; amount = amount })
      → IsBidFor (with_put book j (record { lots = lots; amount = amount })) j lots number
      → IsWinning (market_of (with_put book j (record { lots = lots; amount = amount }))) (set choice (j - 1) (moved_up number (number_of choice j)))
  add-stays lots amount none beaten for =
      let bid : BookBid = record { lots = lots; amount = amount } in
      let old = bids_of book j in
      let bids = with_entry lots amount old in
      let new = with_bids book j bids in
      let p = number - 1 in
      let up : suc p ≡ number = number-up number for.some in
      let mine = own-bids book j bids some inside in
      let low : p < length bids = omega (arith, for.some, for.known, ap (λ (l : List BookBid). length l) mine) in
      let there : (get_or bids p no_bid).lots ≡ lots = ap (λ (l : List BookBid). (get_or l p no_bid).lots) (sym mine) ∙ sym (lots_at new j number for.some)
      ∙ for.own in
      let put = put-in old lots amount p none low there in
      let placed : bid_of new j number ≡ bid =
      own-bid book j bids some inside number ∙ ap (at bids) (sym up) ∙ ap (λ (l : List BookBid). get_or l p no_bid) put.1
      ∙ get_or-insert_at old p bid no_bid put.0 in
      let Own = PutPair old p bid in
      let pairs : OwnPairs old bids Own = subst (λ (l : List BookBid). OwnPairs old l Own) (sym put.1) (put-pairs old p bid put.0) in
      let moved : Own (number_of choice j) (moved_up number (number_of choice j)) = (
        number-known,
        subst (λ (n : ℕ). Shifted n (number_of choice j) (moved_up number (number_of choice j))) (sym up)
            (up-shifted number (number_of choice j)),
      ) in
      goes-on book j bids some inside Own pairs choice (moved_up number (number_of choice j)) winning moved
      (λ d t. elim (cases_eq (number_of d j) number) [
        | inl is ↦ inr (beaten-less book j bids bid choice d number some inside beaten placed is t)
        | inr other ↦
            let known : number_of d j ≤ length (insert old p bid) = subst (λ (l : List BookBid). number_of d j ≤ length l) put.1
            (new-known book j bids some inside d t) in
            inl (put-pick old p bid put.0 (number_of d j) known (λ e. other (e ∙ up)))
      ])

  module _ (lots : List ℕ) (order : InPackageOrder (bids_of book j)) (for : IsBidFor book j lots number) where
    taken : (number - 1 < length (bids_of book j)) × ((get_or (bids_of book j) (number - 1) no_bid).lots ≡ lots)
    taken = (omega (arith, for.some, for.known), sym (lots_at book j number for.some) ∙ for.own)

    -- the bids with another amount for the package
    pub raised-bids : (amount : ℕ) → with_entry lots amount (bids_of book j) ≡ set (bids_of book j) (number - 1) (record { lots = lots; amount = amount })
    raised-bids amount =
        put-taken (bids_of book j) lots amount (number - 1)
        (λ k low. subst (λ (l : List ℕ). is_before (get_or (bids_of book j) k no_bid).lots l ≡ true) taken.1 (order k (number - 1) low taken.0)) taken.0 taken.1

    -- a bid that the choice doesn't use is raised, and is beaten
    pub raise-stays : (amount : ℕ) → number_of choice j ≢ number → IsBeaten book choice j (record { lots = lots; amount = amount })
        → IsWinning (market_of (with_put book j (record { lots = lots; amount = amount }))) choice
    raise-stays amount unused beaten =
        let bid : BookBid = record { lots = lots; amount = amount } in
        let old = bids_of book j in
        let bids = with_entry lots amount old in
        let new = with_bids book j bids in
        let p = number - 1 in
        let up : suc p ≡ number = number-up number for.some in
        let is = raised-bids amount in
        let placed : bid_of new j number ≡ bid =
        own-bid book j bids some inside number ∙ ap (at bids) (sym up) ∙ ap (λ (l : List BookBid). get_or l p no_bid) is
        ∙ get_or-set_same old p bid no_bid taken.0 in
        let Own = SetPair old p bid in
        let pairs : OwnPairs old bids Own = subst (λ (l : List BookBid). OwnPairs old l Own) (sym is) (set-pairs old p bid) in
        let long : length bids ≡ length old = ap (λ (l : List BookBid). length l) is ∙ length-set old p bid in
        subst (IsWinning (market_of new)) (set-get_or choice (j - 1) 0)
        (goes-on book j bids some inside Own pairs choice (number_of choice j) winning (refl, ((λ e. unused (e ∙ up)), number-known))
        (λ d t. elim (cases_eq (number_of d j) number) [
          | inl same ↦ inr (beaten-less book j bids bid choice d number some inside beaten placed same t)
          | inr other ↦ inl (number_of d j, (refl, ((λ e. other (e ∙ up)), omega (arith, long, new-known book j bids some inside d t))))
        ]))

    -- a bid that the choice doesn't use is taken out
    pub remove-stays : number_of choice j ≢ number → IsWinning (market_of (with_bids book j (without_entry lots (bids_of book j))))
        (set choice (j - 1) (moved_down number (number_of choice j)))
    remove-stays unused =
        let old = bids_of book j in
        let bids = without_entry lots old in
        let new = with_bids book j bids in
        let p = number - 1 in
        let up : suc p ≡ number = number-up number for.some in
        let is : bids ≡ remove old p = without-removed old lots p order taken.0 taken.1 in
        let Own = GonePair old p no_bid in
        let pairs : OwnPairs old bids Own = subst (λ (l : List BookBid). OwnPairs old l Own) (sym is) (gone-pairs old p no_bid taken.0) in
        let moved : Own (number_of choice j) (moved_down number (number_of choice j)) = (
          number-known,
          subst (λ (n : ℕ). Shifted n (moved_down number (number_of choice j)) (number_of choice j)) (sym up)
              (down-shifted number (number_of choice j) for.some unused),
        ) in
        goes-on book j bids some inside Own pairs choice (moved_down number (number_of choice j)) winning moved
        (λ d t. inl (gone-pick old p no_bid taken.0 (number_of d j) (subst (λ (l : List BookBid). number_of d j ≤ length l) is
        (new-known book j bids some inside d t))))
