-- The revenue, and the text of an outcome as a whole.
use Rattle.std.proofs.Common.{◌≡◌, ℕ, zero, suc, ◌-◌, ◌≤◌, IsTrue, List, [], ◌∷◌, ◌++◌, codes, length, ℤ, pos, ◌+ℤ◌, ◌*ℤ◌, refl, sym, ap, ◌∙◌, arith}
use Rattle.std.proofs.Math.IntN.{*ℤ-zero}
use Rattle.std.proofs.lemmas.List.{length-map}
use Rattle.auction_model.specs.Book.{Book, market_of, menu_of}
use Rattle.auction_model.specs.Lowered.{of_bidder}
use Rattle.auction_model.specs.Market.{number_of, value_of}
use Rattle.auction_model.specs.Menu.{is_known_after}
use Rattle.auction_model.specs.Prices.{Point, everyone, sum_over}
use Rattle.auction_model.proofs.ChoiceLaws.{known-length}
use Rattle.print_grammar.specs.WinText.{net_line}
use Rattle.choices.specs.declared.chooser.Single.{Single}
use Rattle.choices.specs.Singles.{winners_after}
use Rattle.print_grammar.specs.Prices.{reserve_of, revenue_of, IsPriceText}
use Rattle.core_laws.proofs.Sums.{choice-is, over-is}
use Rattle.wide_num.specs.Sums.{nth, total}
use Rattle.wide_num.proofs.Ints.{lin, mul-add}
use Rattle.wide_num.proofs.Sums.{total-same}
use Rattle.outcome.specs.declared.fraction.Fraction.{Fraction}
use Rattle.outcome.specs.declared.prices.WinnerPrice.{WinnerPrice}
use Rattle.outcome.specs.Fractions.{IsFractionOf, fraction_text}
use Rattle.outcome.specs.Prices.{AreWinnerPrices, lines_of, reserves_of}
use Rattle.outcome.specs.Printable.{HavePrices}
use Rattle.outcome.proofs.PriceLists.{names, lines-are, reserves-are, prices-length}

split-sum : (f g : ℕ → ℤ) (d : ℤ) (n : ℕ) → sum_over everyone (λ j. f j +ℤ (d *ℤ g j)) n ≡ sum_over everyone f n +ℤ (d *ℤ sum_over everyone g n)
split-sum f g d zero = omega (arith, lin, *ℤ-zero d)
split-sum f g d (suc n) = omega (arith, lin, split-sum f g d n, mul-add d (sum_over everyone g n) (g (suc n)))

winners-few : (k : ℕ) (z : List ℕ) → length (winners_after k z) ≤ length z
winners-few k [] = omega arith
winners-few k (zero ∷ z) = omega (arith, winners-few (suc k) z)
winners-few k (suc i ∷ z) = omega (arith, winners-few (suc k) z)

module _ (book : Book) (z : List ℕ) (p : Point) (ss : List Single) (ws : List WinnerPrice) (known : IsTrue (is_known_after (menu_of book) 0 z))
    (as-many : length p.at ≡ length z) (who : names ss ≡ winners_after 0 z)
    (are : AreWinnerPrices book z p ss ws) where
  long : length z ≡ length book.bidders
  long = omega (arith, known-length (menu_of book) 0 z known)

  -- no more win than there are bidders
  pub few : length ws ≤ length book.bidders
  few = omega (arith, prices-length book z p ss ws are, length-map ss (λ (s : Single). s.winner), ap (λ (l : List ℕ). length l) who, winners-few 0 z, long)

  payments-are : sum_over everyone (of_bidder p.at) (length book.bidders) ≡ total (length p.at) (nth p.at)
  payments-are =
      ap (sum_over everyone (of_bidder p.at)) (sym long ∙ sym as-many) ∙ over-is everyone (of_bidder p.at) (length p.at)
      ∙ total-same (length p.at) (λ k. of_bidder p.at (suc k)) (nth p.at) (λ k lt. let same : suc k - 1 ≡ k = omega arith in ap (nth p.at) same)

  reserves-sum : sum_over everyone (λ j. reserve_of book j (number_of z j)) (length book.bidders) ≡ pos (reserves_of ws)
  reserves-sum =
      ap (sum_over everyone (λ j. reserve_of book j (number_of z j))) (sym long) ∙ over-is everyone (λ j. reserve_of book j (number_of z j)) (length z)
      ∙ sym (choice-is (reserve_of book) z) ∙ reserves-are book z p 0 z ss ws refl who are

  -- all payments and, times the denominator, the reserves of the winners sum to the revenue
  pub revenue-is : total (length p.at) (nth p.at) +ℤ (p.den *ℤ pos (reserves_of ws)) ≡ revenue_of book z p (length book.bidders)
  revenue-is =
      sym (split-sum (of_bidder p.at) (λ j. reserve_of book j (number_of z j)) p.den (length book.bidders)
      ∙ ap (λ (x : ℤ). x +ℤ (p.den *ℤ sum_over everyone (λ j. reserve_of book j (number_of z j)) (length book.bidders))) payments-are
      ∙ ap (λ (x : ℤ). total (length p.at) (nth p.at) +ℤ (p.den *ℤ x)) reserves-sum)

  -- the lines of the winners, of the net value and of the revenue are the text of the outcome
  pub price-text : (revenue : Fraction) (text : List ℕ) → IsFractionOf (revenue_of book z p (length book.bidders)) p.den revenue
      → text ≡ lines_of book ws ++ net_line (value_of (market_of book) z) ++ codes "revenue " ++ fraction_text revenue ++ codes "\n"
      → (v : ℕ → ℤ) → HavePrices v ss → IsPriceText book z v p text
  price-text revenue text is made v have = (
    lines_of book ws,
    fraction_text revenue,
    lines-are book z p v 0 z ss ws refl who have are,
    (revenue.whole, revenue.rest, revenue.parts, is, refl),
    made,
  )
