-- A winner of the facts: its bid is one of the book, and what is printed of it stays within the range.
use Rattle.std.proofs.Common.{IsTrue, List, ap, arith, get_or, length, map, not, of_z, pos, subst, suc, sym, to_z, true, unsigned_abs, zero, ℕ, ℤ}
use Rattle.std.proofs.Common.{◌*ℤ◌, ◌+ℤ◌, ◌+◌, ◌-◌, ◌<◌, ◌==◌, ◌^◌, ◌∙◌, ◌≡◌, ◌≤◌}
use Rattle.std.specs.Int.{w128}
use Rattle.std.specs.List.{AllByRecursion}
use Rattle.std.proofs.lemmas.Int.{ints, to_z_pos}
use Rattle.auction_model.specs.Book.{Book, bids_of, menu_of}
use Rattle.auction_model.specs.Lowered.{of_bidder}
use Rattle.auction_model.specs.Market.{number_of, uses}
use Rattle.auction_model.specs.Menu.{is_known_after}
use Rattle.auction_model.proofs.ChoiceLaws.{known-length, known-of}
use Rattle.bid_book.proofs.Within.{each_at}
use Rattle.cert_summary.specs.declared.shown.CertFacts.{CertFacts}
use Rattle.cert_summary.proofs.Winners.{Wins, all-win, each-of_map}
use Rattle.choices.specs.declared.chooser.Single.{Single}
use Rattle.choices.specs.Singles.{winners_after}
use Rattle.limits.specs.declared.TheConstants.{MOST_AMOUNT}
use Rattle.print_grammar.specs.Prices.{reserve_of}
use Rattle.outcome.specs.declared.prices.WinnerPrice.{WinnerPrice}
use Rattle.outcome.specs.Fractions.{IsFractionOf}
use Rattle.outcome.specs.Prices.{IsWinnerPrice}
use Rattle.outcome.specs.Printable.{IsPrintable, IsWinnerOf, point_of}

some-number : (n : ℕ) → not (n == 0) ≡ true → 0 < n
some-number zero h = absurd (lie h)
  where
    lie : not (0 == 0) ≡ true → ⊥
    lie q = cc
some-number (suc n) h = omega arith

module _ (book : Book) (z : List ℕ) (known : IsTrue (is_known_after (menu_of book) 0 z)) (j : ℕ) (some : 0 < j) (most : j ≤ length z) where
  -- a bidder of the choice is one of the book
  pub winner-in : j ≤ length book.bidders
  winner-in = omega (arith, most, known-length (menu_of book) 0 z known)

  -- the number of a winner is that of one of its bids
  pub bid-in : IsTrue (uses z j) → (0 < number_of z j) × (number_of z j ≤ length (bids_of book j))
  bid-in wins =
      let up : j - 1 + 1 ≡ j = omega (arith, some) in
      let number : get_or z (j - 1) 0 ≤ length (bids_of book (j - 1 + 1)) = known-of (menu_of book) z (j - 1) known (omega (arith, some, most)) in
      (some-number (number_of z j) wins, subst (λ (i : ℕ). number_of z j ≤ length (bids_of book i)) up number)

-- each of the singles is a winner of the choice
pub singles-win : (z : List ℕ) (ss : List Single) → map (λ s. s.winner) ss ≡ winners_after 0 z → AllByRecursion (λ s. Wins z s.winner) ss
singles-win z ss who = each-of_map (Wins z) (λ (s : Single). s.winner) ss (subst (AllByRecursion (Wins z)) (sym who) (all-win z))

-- and so is the one at a place
pub is-winner : (book : Book) (facts : CertFacts) → IsPrintable book facts → (items : List Single) → items ≡ facts.singles → (i : ℕ) (s : Single)
    → i < length items → s ≡ get_or items i s → IsWinnerOf facts s
is-winner book facts is items same i s inside item =
    let at : get_or facts.singles i s ≡ s = ap (λ (l : List Single). get_or l i s) (sym same) ∙ sym item in
    let long : i < length facts.singles = omega (arith, inside, ap (λ (l : List Single). length l) same) in
    let wins : Wins facts.choice s.winner = subst (λ (x : Single). Wins facts.choice x.winner)
    at (each_at (λ x. Wins facts.choice x.winner) facts.singles i s (singles-win facts.choice facts.singles is.winners) long) in
    record {
      bidder = (wins.0, wins.1);
      wins = wins.2;
      price_small = subst (λ (x : Single). unsigned_abs x.price ≤ 2 ^ 47) at (each_at (λ x. unsigned_abs x.price ≤ 2 ^ 47) facts.singles i s is.prices_small
          long);
    }

-- a reserve is added to a small price
pub gross-is : (v : ℤ) (r : ℕ) → unsigned_abs v ≤ 2 ^ 47 → r < 2 ^ 64 → to_z w128 (of_z w128 (to_z w128 (of_z w128 v) +ℤ to_z w128 r)) ≡ v +ℤ pos r
gross-is v r small low = omega (arith, ints, small, to_z_pos w128 r (omega (arith, low)))

gross-small : (x v : ℤ) (r : ℕ) → x ≡ v +ℤ pos r → unsigned_abs v ≤ 2 ^ 47 → r ≤ MOST_AMOUNT → unsigned_abs x ≤ 2 ^ 48
gross-small x v r e small low = omega (arith, ints, e, small, low)

-- what is printed of the winner
module _ (book : Book) (facts : CertFacts) (s : Single) (small : unsigned_abs s.price ≤ 2 ^ 47) (price : WinnerPrice) (paid : ℤ)
    (bidder : price.bidder ≡ s.winner) (number : price.bid ≡ number_of facts.choice s.winner)
    (reserve : pos price.reserve ≡ reserve_of book s.winner price.bid) (gross : price.vickrey ≡ s.price +ℤ pos price.reserve)
    (low : price.reserve ≤ MOST_AMOUNT) (own-paid : paid ≡ of_bidder facts.pay s.winner)
    (pays : IsFractionOf (paid +ℤ (facts.den *ℤ pos price.reserve)) facts.den price.pays) where
  own-reserve : pos price.reserve ≡ reserve_of book s.winner (number_of facts.choice s.winner)
  own-reserve = reserve ∙ ap (reserve_of book s.winner) number

  -- its bidder, its bid, its Vickrey price and what it pays, with the reserve added to both
  pub is-price : IsWinnerPrice book facts.choice (point_of facts) s price
  is-price = record {
    bidder_is = bidder;
    bid_is = number;
    reserve_is = own-reserve;
    vickrey_is = gross ∙ ap (λ (x : ℤ). s.price +ℤ x) own-reserve;
    vickrey_small = gross-small price.vickrey s.price price.reserve gross small low;
    pays_is = subst (λ (x : ℤ). IsFractionOf x facts.den price.pays) (ap (λ (x : ℤ). x +ℤ (facts.den *ℤ pos price.reserve)) own-paid
        ∙ ap (λ (x : ℤ). of_bidder facts.pay s.winner +ℤ (facts.den *ℤ x)) own-reserve) pays;
  }
