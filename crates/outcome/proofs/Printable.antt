-- The facts of a certificate can be printed, and what is printed is of the certificate.
use Rattle.std.proofs.Common.{Bool, IsTrue, List, ap, arith, false, length, not, pos, refl, subst, suc, sym, true, zero, ℕ, ℤ, ◌*ℤ◌, ◌+ℤ◌, ◌-◌, ◌<ℤ◌}
use Rattle.std.proofs.Common.{◌<◌, ◌==◌, ◌^◌, ◌∙◌, ◌≡◌, ◌≤ℤ◌, ◌≤◌}
use Rattle.std.proofs.Math.IntN.{*ℤ-zero}
use Rattle.std.proofs.lemmas.Int.{ints}
use Rattle.std.proofs.lemmas.Bool.{eqb-true}
use Rattle.auction_model.specs.Book.{Book, market_of, menu_of, net_of}
use Rattle.auction_model.specs.Lowered.{of_bidder}
use Rattle.auction_model.specs.Market.{number_of, uses, value_of}
use Rattle.auction_model.specs.Menu.{is_known_after}
use Rattle.auction_model.specs.Prices.{Point}
use Rattle.bid_book.specs.Kept.{IsBidBook}
use Rattle.cert_summary.specs.declared.shown.CertFacts.{CertFacts}
use Rattle.cert_summary.specs.Facts.{AreFacts, HasFacts}
use Rattle.cert_summary.proofs.FactLaws.{prices-are, prices-small, winners-are}
use Rattle.cert_summary.proofs.Known.{choice-known, value-is}
use Rattle.cert_grammar.specs.Certificate.{CertValue}
use Rattle.cert_soundness.specs.Sound.{cert_point, cert_prices}
use Rattle.cert_soundness.specs.Tests.{C5, won}
use Rattle.outcome.specs.Printable.{HavePrices, IsPrintable, point_of}
use Rattle.core_laws.proofs.Sums.{choice-is}
use Rattle.wide_num.specs.Range.{InRange}
use Rattle.wide_num.specs.Sums.{nth, total}
use Rattle.wide_num.proofs.Ints.{*ℤ-one, lin, mul-add}

no-number : (n : ℕ) → not (n == 0) ≡ false → n ≡ 0
no-number n h = elim (n == 0) as (λ (b : Bool). (n == 0) ≡ b → not b ≡ false → n ≡ 0) [ true ↦ λ e q. eqb-true n 0 e | false ↦ λ e q. absurd (lie q) ] refl h
  where
    lie : true ≡ false → ⊥
    lie q = cc

module _ (book : Book) (c : CertValue) (c5 : (place : ℕ) → C5 book c place) where
  abbrev Pays : ℕ → Type 0
  Pays j = (pos 0 ≤ℤ of_bidder c.pay j) × (of_bidder c.pay j ≤ℤ (c.den *ℤ won book c j))

  loser-pays : (j : ℕ) → uses c.choice j ≡ false → of_bidder c.pay j ≡ pos 0 → Pays j
  loser-pays j loses none =
      let worth : won book c j ≡ pos 0 = ap (net_of book j) (no-number (number_of c.choice j) loses) in
      let bound : c.den *ℤ won book c j ≡ pos 0 = ap (λ (x : ℤ). c.den *ℤ x) worth ∙ *ℤ-zero c.den in
      (omega (arith, ints, none), omega (arith, ints, none, bound))

  pays : (j : ℕ) → 0 < j → j ≤ length book.bidders → Pays j
  pays j some most =
      elim (uses c.choice j) as (λ (b : Bool). uses c.choice j ≡ b → Pays j) [
        | true ↦ λ wins. (c5 j).winner some most wins
        | false ↦ λ loses. loser-pays j loses ((c5 j).loser some most loses)
      ] refl

  -- of the bidder k + 1
  paid-at : (k : ℕ) → k < length book.bidders → (pos 0 ≤ℤ nth c.pay k) × (nth c.pay k ≤ℤ (c.den *ℤ net_of book (suc k) (number_of c.choice (suc k))))
  paid-at k lt =
      let same : suc k - 1 ≡ k = omega arith in
      let p = pays (suc k) (omega arith) (omega arith) in
      let number : of_bidder c.pay (suc k) ≡ nth c.pay k = ap (nth c.pay) same in
      (omega (arith, ints, p.0, number), omega (arith, ints, p.1, number))

  paid-most : (n : ℕ) → n ≤ length book.bidders → total n (nth c.pay) ≤ℤ (c.den *ℤ total n (λ k. net_of book (suc k) (number_of c.choice (suc k))))
  paid-most zero le = omega (arith, ints, *ℤ-zero c.den)
  paid-most (suc n) le =
      let f : ℕ → ℤ = λ k. net_of book (suc k) (number_of c.choice (suc k)) in
      omega (arith, lin, paid-most n (omega arith), (paid-at n (omega arith)).1, mul-add c.den (total n f) (f n))

-- the payments of such a certificate sum to less than 2^120
small-sum : (book : Book) (c : CertValue) → HasFacts book c → total (length c.pay) (nth c.pay) <ℤ pos (2 ^ 120)
small-sum book c has =
    let bidders = has.certificate.choice.0 in
    let worth : ℤ = total (length book.bidders) (λ k. net_of book (suc k) (number_of c.choice (suc k))) in
    let value : worth ≡ c.value = ap (λ (n : ℕ). total n (λ k. net_of book (suc k) (number_of c.choice (suc k)))) (sym bidders)
    ∙ sym (choice-is (net_of book) c.choice) ∙ value-is book c has in
    let most : total (length book.bidders) (nth c.pay) ≤ℤ (c.den *ℤ c.value) = subst (λ (x : ℤ). total (length book.bidders) (nth c.pay) ≤ℤ (c.den *ℤ x))
    value (paid-most book c has.payments (length book.bidders) (omega arith)) in
    let size : (c.den *ℤ (c.value +ℤ pos 1)) <ℤ pos (2 ^ 120) = (has.sizes 3).size refl in
    let positive : pos 1 ≤ℤ c.den = (has.sizes 1).den refl in
    subst (λ (n : ℕ). total n (nth c.pay) <ℤ pos (2 ^ 120)) (sym has.certificate.pay.0)
    (omega (arith, lin, most, size, positive, mul-add c.den c.value (pos 1), *ℤ-one c.den))

module _ (book : Book) (c : CertValue) (facts : CertFacts) (are : AreFacts book c facts) where
  has : HasFacts book c
  has = are.of

  -- the facts of a certificate can be printed
  pub printable : IsBidBook book → IsPrintable book facts
  printable kept = record {
    known = subst (λ (z : List ℕ). IsTrue (is_known_after (menu_of book) 0 z)) (sym are.choice) (choice-known book c has);
    value = ap (value_of (market_of book)) are.choice ∙ value-is book c has ∙ sym are.value;
    winners = winners-are book c facts are;
    prices_small = prices-small book c facts are kept;
    den = subst (λ (d : ℤ). (pos 1 ≤ℤ d) × InRange d) (sym are.den) ((has.sizes 1).den refl, has.certificate.den);
    payments = ap (λ (l : List ℤ). length l) are.pay ∙ has.certificate.pay.0 ∙ sym has.certificate.choice.0 ∙ sym (ap (λ (l : List ℕ). length l) are.choice);
    not_negative = subst (λ (l : List ℤ). (i : ℕ) → i < length l → pos 0 ≤ℤ nth l i) (sym are.pay)
        (λ i lt. (paid-at book c has.payments i (omega (arith, lt, has.certificate.pay.0))).0);
    small = subst (λ (l : List ℤ). total (length l) (nth l) <ℤ pos (2 ^ 120)) (sym are.pay) (small-sum book c has);
  }

  -- what holds of the choice, the prices and the point of the facts holds of those of the certificate
  pub of-certificate : (T : List ℕ → (ℕ → ℤ) → Point → Type 0) → ((v : ℕ → ℤ) → HavePrices v facts.singles → T facts.choice v (point_of facts))
      → T c.choice (cert_prices book c) (cert_point c)
  of-certificate T all =
      let point : point_of facts ≡ cert_point c = λ k. record { den = are.den k; at = are.pay k } in
      subst (λ (z : List ℕ). T z (cert_prices book c) (cert_point c)) are.choice
      (subst (λ (p : Point). T facts.choice (cert_prices book c) p) point (all (cert_prices book c) (prices-are book c facts are)))
