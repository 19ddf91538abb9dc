-- Lists of what is printed of the winners: how they grow, their lines, and the sum of their reserves.
use Rattle.std.proofs.Common.{IsTrue, List, [], ap, arith, drop, get_or, length, map, pos, refl, subst, suc, sym, take, zero, ℕ, ℤ, ◌++◌, ◌+ℤ◌, ◌+◌}
use Rattle.std.proofs.Common.{◌-◌, ◌<◌, ◌∙◌, ◌∷◌, ◌≡◌, ◌≤◌}
use Rattle.std.proofs.lemmas.Int.{ints}
use Rattle.std.proofs.lemmas.List.{take_more, take_all}
use Rattle.std.specs.List.{AllByRecursion}
use Rattle.auction_model.specs.Book.{Book, bid_of, bidder_of, bids_of, menu_of}
use Rattle.auction_model.specs.Package.{cost_of}
use Rattle.auction_model.specs.Market.{number_of, sum_after}
use Rattle.auction_model.specs.Menu.{is_known_after}
use Rattle.auction_model.specs.Prices.{Point}
use Rattle.cert_summary.proofs.Winners.{Wins}
use Rattle.choices.specs.declared.chooser.Single.{Single}
use Rattle.choices.specs.Singles.{winners_after}
use Rattle.print_grammar.specs.Fractions.{IsFractionText}
use Rattle.print_grammar.specs.Prices.{reserve_of, gross_of, priced_line, ArePricedLines}
use Rattle.outcome.specs.declared.prices.WinnerPrice.{WinnerPrice}
use Rattle.outcome.specs.Fractions.{fraction_text}
use Rattle.outcome.specs.Prices.{IsWinnerPrice, AreWinnerPrices, line_of, lines_of, reserves_of, CanPrintPrice}
use Rattle.outcome.specs.Printable.{HavePrices}
use Rattle.outcome.proofs.WinnerLaws.{bid-in, winner-in}

-- the winners of these numbers
abbrev pub names : List Single → List ℕ
names = map (λ s. s.winner)

-- none if no bidder is left
pub no-winner : (s : Single) (ss : List Single) → names (s ∷ ss) ≡ [] → ⊥
no-winner s ss e = cc

-- an empty list of winners has no first bidder
pub some-winner : (j : ℕ) (js : List ℕ) → names [] ≡ j ∷ js → ⊥
some-winner j js e = cc

-- the first winner is the first bidder of the list, and the others are the rest
pub first-winner : (s : Single) (ss : List Single) (j : ℕ) (js : List ℕ) → names (s ∷ ss) ≡ j ∷ js → (s.winner ≡ j) × (names ss ≡ js)
first-winner s ss j js e = (cc, cc)

parts-of : (z : List ℕ) (k x : ℕ) (c : List ℕ) → x ∷ c ≡ drop k z → (get_or z k 0 ≡ x) × (c ≡ drop (suc k) z)
parts-of [] zero x c e = absurd (lie e)
  where
    lie : x ∷ c ≡ [] → ⊥
    lie h = cc
parts-of [] (suc k) x c e = absurd (lie e)
  where
    lie : x ∷ c ≡ [] → ⊥
    lie h = cc
parts-of (y ∷ z) zero x c e = (cc, cc)
parts-of (y ∷ z) (suc k) x c e = parts-of z k x c e

-- the choice from a bidder on
pub head-of : (z : List ℕ) (k x : ℕ) (c : List ℕ) → x ∷ c ≡ drop k z → (number_of z (suc k) ≡ x) × (c ≡ drop (suc k) z)
head-of z k x c e = let parts = parts-of z k x c e in let same : suc k - 1 ≡ k = omega arith in (ap (λ (n : ℕ). get_or z n 0) same ∙ parts.0, parts.1)

free : (reserves : List ℕ) → cost_of reserves [] ≡ 0
free [] = refl
free (r ∷ reserves) = refl

module _ (book : Book) (z : List ℕ) (p : Point) where
  -- one winner more
  pub prices-push : (ss : List Single) (ws : List WinnerPrice) (s : Single) (w : WinnerPrice) → AreWinnerPrices book z p ss ws → IsWinnerPrice book z p s w
      → AreWinnerPrices book z p (ss ++ s ∷ []) (ws ++ w ∷ [])
  prices-push [] [] s w are is = (is, refl)
  prices-push [] (x ∷ ws) s w are is = absurd (lie are)
    where
      lie : x ∷ ws ≡ [] → ⊥
      lie e = cc
  prices-push (t ∷ ss) [] s w are is = absurd are
  prices-push (t ∷ ss) (x ∷ ws) s w are is = (are.0, prices-push ss ws s w are.1 is)

  -- there are as many prices as winners
  pub prices-length : (ss : List Single) (ws : List WinnerPrice) → AreWinnerPrices book z p ss ws → length ws ≡ length ss
  prices-length [] ws are = ap length are
  prices-length (s ∷ ss) [] are = absurd are
  prices-length (s ∷ ss) (w ∷ ws) are = ap suc (prices-length ss ws are.1)

  -- the winners of a list so far, and one more
  module _ (all items : List Single) (same : items ≡ all) where
    -- one price more
    pub next-price : (i : ℕ) (s : Single) → i < length items → s ≡ get_or items i s → (before prices : List WinnerPrice) (price : WinnerPrice)
        → AreWinnerPrices book z p (take i all) before
        → IsWinnerPrice book z p s price → prices ≡ before ++ price ∷ [] → AreWinnerPrices book z p (take (i + 1) all) prices
    next-price i s inside item before prices price so-far is made =
        let long : i < length all = omega (arith, inside, ap (λ (l : List Single). length l) same) in
        let at : get_or all i s ≡ s = ap (λ (l : List Single). get_or l i s) (sym same) ∙ sym item in
        let more : take (i + 1) all ≡ take i all ++ s ∷ [] = take_more all i s long ∙ ap (λ (x : Single). take i all ++ x ∷ []) at in
        subst (λ (l : List WinnerPrice). AreWinnerPrices book z p (take (i + 1) all) l) (sym made)
        (subst (λ (ss : List Single). AreWinnerPrices book z p ss (before ++ price ∷ [])) (sym more) (prices-push (take i all) before s price so-far is))

    -- if no winner is left, the prices are those of all
    pub all-prices : (i : ℕ) → length items ≤ i → (prices : List WinnerPrice) → AreWinnerPrices book z p (take i all) prices
        → AreWinnerPrices book z p all prices
    all-prices i past prices are =
        subst (λ (ss : List Single). AreWinnerPrices book z p ss prices) (take_all i all (omega (arith, past, ap (λ (l : List Single). length l) same))) are

  -- each has a bid of the book
  pub have-bids : IsTrue (is_known_after (menu_of book) 0 z) → (ss : List Single) (ws : List WinnerPrice) → AllByRecursion (λ s. Wins z s.winner) ss
      → AreWinnerPrices book z p ss ws → AllByRecursion (CanPrintPrice book) ws
  have-bids known [] ws win are = subst (AllByRecursion (CanPrintPrice book)) (sym are) tt
  have-bids known (s ∷ ss) [] win are = absurd are
  have-bids known (s ∷ ss) (w ∷ ws) win are =
      let bidder : w.bidder ≡ s.winner = are.0.bidder_is in
      let bid : w.bid ≡ number_of z s.winner = are.0.bid_is in
      let in_book = winner-in book z known s.winner win.0.0 win.0.1 in
      let own = bid-in book z known s.winner win.0.0 win.0.1 win.0.2 in
      let most : number_of z s.winner ≤ length (bids_of book w.bidder) = subst (λ (j : ℕ). number_of z s.winner ≤ length (bids_of book j))
      (sym bidder) own.1 in (
        record {
          bidder_in = (omega (arith, bidder, win.0.0), omega (arith, bidder, in_book));
          bid_in =
              (omega (arith, bid, own.0), omega (arith, bid, most));
          vickrey_small = are.0.vickrey_small;
        },
        have-bids known ss ws win.1 are.1,
      )

  -- a loser has no reserve
  no-reserve : (j : ℕ) → reserve_of book j 0 ≡ pos 0
  no-reserve j = ap pos (free book.reserves)

  -- the reserves of the choice sum to those of the winners' packages
  pub reserves-are : (k : ℕ) (c : List ℕ) (ss : List Single) (ws : List WinnerPrice) → c ≡ drop k z → names ss ≡ winners_after k c
      → AreWinnerPrices book z p ss ws → sum_after (reserve_of book) k c ≡ pos (reserves_of ws)
  reserves-are k [] [] ws at who are = ap (λ (l : List WinnerPrice). pos (reserves_of l)) (sym are)
  reserves-are k [] (s ∷ ss) ws at who are = absurd (no-winner s ss who)
  reserves-are k (zero ∷ c) ss ws at who are = omega (arith, ints, no-reserve (suc k), reserves-are (suc k) c ss ws (head-of z k zero c at).1 who are)
  reserves-are k (suc i ∷ c) [] ws at who are = absurd (some-winner (suc k) (winners_after (suc k) c) who)
  reserves-are k (suc i ∷ c) (s ∷ ss) [] at who are = absurd are
  reserves-are k (suc i ∷ c) (s ∷ ss) (w ∷ ws) at who are =
      let head = head-of z k (suc i) c at in
      let first = first-winner s ss (suc k) (winners_after (suc k) c) who in
      let own : pos w.reserve ≡ reserve_of book (suc k) (suc i) = are.0.reserve_is ∙ ap (λ (j : ℕ). reserve_of book j (number_of z j)) first.0
      ∙ ap (reserve_of book (suc k)) head.0 in
      let rest : sum_after (reserve_of book) (suc k) c ≡ pos (reserves_of ws) = reserves-are (suc k) c ss ws head.1 first.1 are.1 in
      omega (arith, ints, own, rest)

  -- v are the prices of the winners
  module _ (v : ℕ → ℤ) where
    -- what is printed of bidder k + 1, which wins with bid i + 1
    pub record IsOwn (k i : ℕ) (w : WinnerPrice) : Type 0 where
      -- its bidder is k + 1
      pub bidder : w.bidder ≡ suc k
      -- its bid is i + 1
      pub bid : w.bid ≡ suc i
      -- its Vickrey price is that of the bidder and the reserve of the package
      pub vickrey : w.vickrey ≡ v (suc k) +ℤ reserve_of book (suc k) (suc i)

    -- what is printed of the winner k + 1 with bid i + 1 has these numbers
    pub own-price : (k i : ℕ) (s : Single) (w : WinnerPrice) → s.winner ≡ suc k → number_of z (suc k) ≡ suc i → s.price ≡ v s.winner
        → IsWinnerPrice book z p s w → IsOwn k i w
    own-price k i s w who number price is = record {
      bidder = is.bidder_is ∙ who;
      bid = is.bid_is ∙ ap (number_of z) who ∙ number;
      vickrey = is.vickrey_is ∙ ap (λ (x : ℤ). x +ℤ reserve_of book s.winner (number_of z s.winner)) price
          ∙ ap (λ (j : ℕ). v j +ℤ reserve_of book j (number_of z j)) who ∙ ap (λ (n : ℕ). v (suc k) +ℤ reserve_of book (suc k) n) number;
    }

    own-line : (k i : ℕ) (w : WinnerPrice) → IsOwn k i w → line_of book w ≡ priced_line (bidder_of book (suc k)).name (bid_of book (suc k) (suc i))
        (v (suc k) +ℤ reserve_of book (suc k) (suc i)) (fraction_text w.pays)
    own-line k i w own =
        ap (λ (j : ℕ). priced_line (bidder_of book j).name (bid_of book j w.bid) w.vickrey (fraction_text w.pays)) own.bidder
        ∙ ap (λ (b : ℕ). priced_line (bidder_of book (suc k)).name (bid_of book (suc k) b) w.vickrey (fraction_text w.pays)) own.bid
        ∙ ap (λ (x : ℤ). priced_line (bidder_of book (suc k)).name (bid_of book (suc k) (suc i)) x (fraction_text w.pays)) own.vickrey

    -- their lines are those of the winners
    pub lines-are : (k : ℕ) (c : List ℕ) (ss : List Single) (ws : List WinnerPrice) → c ≡ drop k z → names ss ≡ winners_after k c → HavePrices v ss
        → AreWinnerPrices book z p ss ws → ArePricedLines book z v p k c (lines_of book ws)
    lines-are k [] [] ws at who have are = ap (lines_of book) are
    lines-are k [] (s ∷ ss) ws at who have are = absurd (no-winner s ss who)
    lines-are k (zero ∷ c) ss ws at who have are = lines-are (suc k) c ss ws (head-of z k zero c at).1 who have are
    lines-are k (suc i ∷ c) [] ws at who have are = absurd (some-winner (suc k) (winners_after (suc k) c) who)
    lines-are k (suc i ∷ c) (s ∷ ss) [] at who have are = absurd are
    lines-are k (suc i ∷ c) (s ∷ ss) (w ∷ ws) at who have are =
        let head = head-of z k (suc i) c at in
        let first = first-winner s ss (suc k) (winners_after (suc k) c) who in (
          fraction_text w.pays,
          lines_of book ws,
          subst (λ (j : ℕ). IsFractionText (gross_of book z p j) p.den (fraction_text w.pays)) first.0
              (w.pays.whole, w.pays.rest, w.pays.parts, are.0.pays_is, refl),
          lines-are (suc k) c ss ws head.1 first.1 have.1 are.1,
          ap (λ (l : List ℕ). l ++ lines_of book ws) (own-line k i w (own-price k i s w first.0 head.0 have.0 are.0)),
        )
