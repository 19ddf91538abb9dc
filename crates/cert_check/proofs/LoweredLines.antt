-- The lowered table, two lines at a time, and what is found early of the place after its rules.
use Rattle.std.specs.Prelude.{◌≡◌, ℕ, ◌+◌, ◌*◌, ◌<◌, ◌≤◌, ◌↔◌, ◌≤ℤ◌, refl}
use Rattle.std.proofs.Common.{sym, subst, arith}
use Rattle.auction_model.specs.Book.{Book, menu_of}
use Rattle.auction_model.specs.Lowered.{of_bidder}
use Rattle.auction_model.specs.Menu.{without}
use Rattle.auction_model.specs.Prices.{everyone, sum_over}
use Rattle.auction_model.specs.Table.{entry_at}
use Rattle.cert_grammar.specs.Certificate.{CertValue}
use Rattle.cert_soundness.specs.Tests.{Asks, C9, ObeysAt, bidders_of, full, lowered_net, states}
use Rattle.table_check.specs.LineTests.{offered, worth_of, RulesAt}
use Rattle.table_check.specs.declared.offers.TestedBids.{TestedBids}
use Rattle.cert_check.proofs.TableLaws.{number-below}
use Rattle.cert_check.proofs.ValueLaws.{obeys-all, obeys-none_less}
use Rattle.cert_check.proofs.Worths.{obeys-same}

module _ (book : Book) (w : ℕ → ℕ) (c : CertValue) (place : ℕ) where
  asks-C9 : C9 book c place → Asks book w c 9 place
  asks-C9 own = (
    λ e. absurd (omega (arith, e)),
    λ e. absurd (omega (arith, e)),
    λ e. absurd (omega (arith, e)),
    λ e. absurd (omega (arith, e)),
    λ e. absurd (omega (arith, e)),
    λ e. absurd (omega (arith, e)),
    λ e. absurd (omega (arith, e)),
    λ e. absurd (omega (arith, e)),
    λ e. own,
  )

  of-C9 : Asks book w c 9 place → C9 book c place
  of-C9 asks = asks.8 refl

-- the offers are all bids at their lowered worths
module _ (o : TestedBids) (w : ℕ → ℕ) (c : CertValue) (nobody : o.skip ≡ 0) (net : (j i : ℕ) → 0 < j → j ≤ bidders_of o.book.now
    → worth_of o j i ≡ lowered_net o.book.now c j i) where
  to-net : (k s : ℕ) → ObeysAt (offered o) (worth_of o) o.book.now.supply c.lowered k s → ObeysAt (menu_of o.book.now)
      (lowered_net o.book.now c) o.book.now.supply c.lowered k s
  to-net k s obeys =
      obeys-all (menu_of o.book.now) (lowered_net o.book.now c) o.book.now.supply c.lowered k s
      (obeys-same (without (menu_of o.book.now) 0) (worth_of o) (lowered_net o.book.now c) o.book.now.supply c.lowered net k s
      (subst (λ (n : ℕ). ObeysAt (without (menu_of o.book.now) n) (worth_of o) o.book.now.supply c.lowered k s) nobody obeys))

  from-net : (k s : ℕ) → ObeysAt (menu_of o.book.now) (lowered_net o.book.now c) o.book.now.supply c.lowered k s
      → ObeysAt (offered o) (worth_of o) o.book.now.supply c.lowered k s
  from-net k s obeys =
      subst (λ (n : ℕ). ObeysAt (without (menu_of o.book.now) n) (worth_of o) o.book.now.supply c.lowered k s) (sym nobody)
      (obeys-same (without (menu_of o.book.now) 0) (lowered_net o.book.now c) (worth_of o) o.book.now.supply c.lowered
      (λ j i some inside. sym (net j i some inside)) k s
      (obeys-none_less (menu_of o.book.now) (lowered_net o.book.now c) o.book.now.supply c.lowered k s obeys))

  -- what the rules ask at a number of a line and a place is what C9 asks there
  pub rules-C9 : (place : ℕ) → place < (bidders_of o.book.now + 1) * states o.book.now → RulesAt o c.lowered place → Asks o.book.now w c 9 place
  rules-C9 place low rules = asks-C9 o.book.now w c place (record {
    rules = λ k s le lt e. to-net k s (rules k s le lt e);
    top = λ e. absurd (omega (arith, e, low));
  })

  -- if C9 holds at a place, the rules of the lowered table hold there
  pub C9-rules : (place : ℕ) → Asks o.book.now w c 9 place → RulesAt o c.lowered place
  C9-rules place asks k s le lt e = from-net k s ((of-C9 o.book.now w c place asks).rules k s le lt e)

module _ (book : Book) (w : ℕ → ℕ) (c : CertValue) where
  -- found when line 0 has come
  pub top-C9 : (entry_at c.lowered 0 (full book) ≤ℤ sum_over everyone (of_bidder c.pay) (bidders_of book)) ↔ Asks book w c 9
      ((bidders_of book + 1) * states book + 0)
  top-C9 = (
    λ low. asks-C9 book w c ((bidders_of book + 1) * states book + 0) (record {
      rules = λ k s le lt e. absurd (omega (arith, e, number-below (bidders_of book) k s (states book) le lt));
      top = λ e. low;
    }),
    λ asks. (of-C9 book w c ((bidders_of book + 1) * states book + 0) asks).top (omega arith),
  )

  -- and after it nothing is asked
  pub past-C9 : (q : ℕ) → (bidders_of book + 1) * states book + 1 ≤ q → Asks book w c 9 q
  past-C9 q past = asks-C9 book w c q (record {
    rules = λ k s le lt e. absurd (omega (arith, e, past, number-below (bidders_of book) k s (states book) le lt));
    top = λ e. absurd (omega (arith, e, past));
  })
