-- The table of the lowered worths passes test C9.
use Rattle.std.specs.Prelude.{◌≡◌, ℕ, zero, suc, ◌-◌, ◌<◌, IsFalse, IsTrue, List, get_or, ℤ, pos, negsuc, neg_ℤ, ◌-ℤ◌, ◌*ℤ◌, ◌≤ℤ◌, refl}
use Rattle.std.specs.Int.{int_max}
use Rattle.std.proofs.Common.{inl, inr, ◌∙◌, ap, subst, arith}
use Rattle.std.proofs.lemmas.Bool.{cases_Bool, cases_lt, cond-false, cond-true}
use Rattle.std.proofs.lemmas.Int.{ints}
use Rattle.std.proofs.lemmas.List.{get_or_past}
use Rattle.std.proofs.Math.IntN.{*ℤ-zero}
use Rattle.auction_model.specs.Book.{Book, market_of, menu_of, net_of}
use Rattle.auction_model.specs.Greatest.{IsFirstGreatest}
use Rattle.auction_model.specs.Lawful.{IsMarket}
use Rattle.auction_model.specs.Lowered.{lowered, of_bidder}
use Rattle.auction_model.specs.Market.{uses}
use Rattle.auction_model.specs.Menu.{fits_after}
use Rattle.auction_model.specs.Prices.{IsCorePoint, everyone, sum_over}
use Rattle.auction_model.specs.Table.{IsExactTable, entry_at}
use Rattle.auction_model.proofs.PlaceLaws.{left_at-whole}
use Rattle.cert_grammar.specs.Certificate.{CertValue}
use Rattle.cert_soundness.specs.Sound.{cert_point}
use Rattle.cert_soundness.specs.Tests.{C9, Obeys, bidders_of, full, lowered_net, won}
use Rattle.cert_soundness.proofs.Sizes.{exact_obeys}
use Rattle.cert_soundness.proofs.Winning.{full-below, lost-nothing}
use Rattle.cert_soundness.proofs.Exact.{obeys-same}
use Rattle.core_laws.specs.Surplus.{AsksWinnersOnly, lowered_sum, surpluses_of}
use Rattle.core_laws.proofs.Excess.{unblocked-free}
use Rattle.core_laws.proofs.Surplus.{surpluses-are, surpluses-length}

idle-none : (x : ℤ) → pos 0 ≤ℤ x → int_max (pos 0) (neg_ℤ x) ≡ pos 0
idle-none (pos zero) h = refl
idle-none (pos (suc x)) h = refl
idle-none (negsuc x) h = absurd (omega (arith, ints))

module _ (book : Book) (c : CertValue) (core : IsCorePoint (market_of book) c.choice (cert_point c)) where
  abbrev surpluses : List ℤ
  surpluses = surpluses_of (market_of book) c.choice c.den c.pay

  asks : AsksWinnersOnly (market_of book) c.choice (cert_point c)
  asks = record { bidders = core.bidders; losers = core.losers }

  surplus-is : (k : ℕ) → k < bidders_of book → of_bidder surpluses (suc k) ≡ (c.den *ℤ won book c (suc k)) -ℤ of_bidder c.pay (suc k)
  surplus-is = (surpluses-are (market_of book) c.choice (cert_point c) asks).surpluses

  lost : (k : ℕ) → k < bidders_of book → IsFalse (uses c.choice (suc k)) → (c.den *ℤ won book c (suc k)) -ℤ of_bidder c.pay (suc k) ≡ pos 0
  lost k lt loses =
      let none : c.den *ℤ won book c (suc k) ≡ pos 0 = ap (λ (x : ℤ). c.den *ℤ x) (lost-nothing book c (suc k) loses) ∙ *ℤ-zero c.den in
      let pays = core.losers (suc k) (omega arith) (omega (arith, lt)) loses in
      omega (arith, ints, none, pays)

  surplus-least : (k : ℕ) → k < bidders_of book → pos 0 ≤ℤ of_bidder surpluses (suc k)
  surplus-least k lt =
      let is = surplus-is k lt in
      elim (cases_Bool (uses c.choice (suc k))) [
        | inl wins ↦ let most = (core.winners (suc k) (omega arith) (omega (arith, lt)) wins).1 in omega (arith, ints, is, most)
        | inr loses ↦ let none = lost k lt loses in omega (arith, ints, is, none)
      ]

  surplus-any : (j : ℕ) → pos 0 ≤ℤ of_bidder surpluses j
  surplus-any j =
      elim (cases_lt (j - 1) (bidders_of book)) [
        | inl inside ↦
            let back : suc (j - 1) - 1 ≡ j - 1 = omega arith in
            subst (λ (x : ℤ). pos 0 ≤ℤ x) (ap (λ (k : ℕ). get_or surpluses k (pos 0)) back) (surplus-least (j - 1) inside)
        | inr past ↦
            let long = surpluses-length (market_of book) c.choice c.den 0 c.pay in
            let none = get_or_past surpluses (j - 1) (pos 0) (omega (arith, past, long, core.bidders)) in
            omega (arith, ints, none)
      ]

  worths-same : (k i : ℕ) → k < bidders_of book → 0 < i → lowered c.den (net_of book) surpluses (suc k) i ≡ lowered_net book c (suc k) i
  worths-same k zero lt some = absurd (omega (arith, some))
  worths-same k (suc i) lt some =
      let is = surplus-is k lt in
      let gain = (c.den *ℤ won book c (suc k)) -ℤ of_bidder c.pay (suc k) in
      elim (cases_Bool (uses c.choice (suc k))) [
        | inl wins ↦
            let kept = cond-true (uses c.choice (suc k)) gain (pos 0) wins in
            omega (arith, ints, is, kept)
        | inr loses ↦
            let kept = cond-false (uses c.choice (suc k)) gain (pos 0) loses in
            let none = lost k lt loses in
            omega (arith, ints, is, kept, none)
      ]

  module _ (exact : IsExactTable (menu_of book) (lowered c.den (net_of book) surpluses) book.supply c.lowered) where
    obeys-lowered : Obeys (menu_of book) (lowered_net book c) book.supply c.lowered
    obeys-lowered =
        obeys-same (menu_of book) (lowered c.den (net_of book) surpluses) (lowered_net book c) book.supply c.lowered worths-same
        (exact_obeys (menu_of book) (lowered c.den (net_of book) surpluses) book.supply c.lowered (λ j. idle-none (of_bidder surpluses j) (surplus-any j))
        (λ j. refl) exact)

    top-lowered : (lawful : IsMarket (market_of book)) (f : List ℕ) → IsFirstGreatest (market_of book).allowed
        (lowered_sum (market_of book) c.choice (cert_point c)) f
        → entry_at c.lowered 0 (full book) ≤ℤ sum_over everyone (of_bidder c.pay) (bidders_of book)
    top-lowered lawful f best =
        let m = market_of book in
        let p = cert_point c in
        let s = full book in
        let entry = (exact.exact 0 (omega arith)).exact s (full-below book.supply) in
        let d = entry.reached.0 in
        let fits : IsTrue (m.allowed d) = subst (λ (l : List ℕ). IsTrue (fits_after (menu_of book) 0 l d)) (left_at-whole book.supply) entry.reached.1 in
        let most = best.greatest d fits in
        let free = unblocked-free m lawful c.choice p surpluses (surpluses-are m c.choice p asks) f best core.unblocked in
        let is = entry.reached.2 in
        omega (arith, ints, most, free, is)

    -- at a core point the exact table of the lowered worths passes test C9
    pub lowered_passes : IsMarket (market_of book) → (f : List ℕ) → IsFirstGreatest (market_of book).allowed
        (lowered_sum (market_of book) c.choice (cert_point c)) f → (place : ℕ) → C9 book c place
    lowered_passes lawful f best place = record {
      rules = λ k s le lt is. obeys-lowered k s le lt;
      top = λ is. top-lowered lawful f best;
    }
