-- The head's table, two lines at a time, and what is found early of the places after its rules.
use Rattle.std.specs.Prelude.{◌≡◌, ℕ, suc, ◌+◌, ◌*◌, ◌<◌, ◌≤◌, ◌↔◌, ◌≤ℤ◌, refl}
use Rattle.std.proofs.Common.{sym, subst, arith}
use Rattle.auction_model.specs.Book.{Book, menu_of, net_of}
use Rattle.auction_model.specs.Menu.{without}
use Rattle.auction_model.specs.Table.{entry_at}
use Rattle.cert_grammar.specs.Certificate.{CertValue}
use Rattle.cert_soundness.specs.Tests.{Asks, C3, NoEarlier, ObeysAt, bidders_of, full, states}
use Rattle.table_check.specs.LineTests.{offered, worth_of, RulesAt}
use Rattle.table_check.specs.declared.offers.TestedBids.{TestedBids}
use Rattle.cert_check.proofs.TableLaws.{number-below}
use Rattle.cert_check.proofs.ValueLaws.{obeys-all, obeys-none_less}
use Rattle.cert_check.proofs.Worths.{obeys-same}

module _ (book : Book) (w : ℕ → ℕ) (c : CertValue) (place : ℕ) where
  -- if C3 holds at a place, what test 3 asks there holds
  pub asks-C3 : C3 book c place → Asks book w c 3 place
  asks-C3 own = (
    λ e. absurd (omega (arith, e)),
    λ e. absurd (omega (arith, e)),
    λ e. own,
    λ e. absurd (omega (arith, e)),
    λ e. absurd (omega (arith, e)),
    λ e. absurd (omega (arith, e)),
    λ e. absurd (omega (arith, e)),
    λ e. absurd (omega (arith, e)),
    λ e. absurd (omega (arith, e)),
  )

  -- if what test 3 asks at a place holds, C3 holds there
  pub of-C3 : Asks book w c 3 place → C3 book c place
  of-C3 asks = asks.2 refl

-- the offers are all bids at their net amounts
module _ (o : TestedBids) (w : ℕ → ℕ) (c : CertValue) (nobody : o.skip ≡ 0) (net : (j i : ℕ) → 0 < j → j ≤ bidders_of o.book.now
    → worth_of o j i ≡ net_of o.book.now j i) where
  to-net : (k s : ℕ) → ObeysAt (offered o) (worth_of o) o.book.now.supply c.table k s → ObeysAt (menu_of o.book.now)
      (net_of o.book.now) o.book.now.supply c.table k s
  to-net k s obeys =
      obeys-all (menu_of o.book.now) (net_of o.book.now) o.book.now.supply c.table k s
      (obeys-same (without (menu_of o.book.now) 0) (worth_of o) (net_of o.book.now) o.book.now.supply c.table net k s
      (subst (λ (n : ℕ). ObeysAt (without (menu_of o.book.now) n) (worth_of o) o.book.now.supply c.table k s) nobody obeys))

  from-net : (k s : ℕ) → ObeysAt (menu_of o.book.now) (net_of o.book.now) o.book.now.supply c.table k s
      → ObeysAt (offered o) (worth_of o) o.book.now.supply c.table k s
  from-net k s obeys =
      subst (λ (n : ℕ). ObeysAt (without (menu_of o.book.now) n) (worth_of o) o.book.now.supply c.table k s) (sym nobody)
      (obeys-same (without (menu_of o.book.now) 0) (net_of o.book.now) (worth_of o) o.book.now.supply c.table (λ j i some inside. sym (net j i some inside)) k s
      (obeys-none_less (menu_of o.book.now) (net_of o.book.now) o.book.now.supply c.table k s obeys))

  -- what the rules ask at a number of a line and a place is what C3 asks there
  pub rules-C3 : (place : ℕ) → place < (bidders_of o.book.now + 1) * states o.book.now → RulesAt o c.table place → Asks o.book.now w c 3 place
  rules-C3 place low rules = asks-C3 o.book.now w c place (record {
    rules = λ k s le lt e. to-net k s (rules k s le lt e);
    top = λ e. absurd (omega (arith, e, low));
    first = λ k lt e. absurd (omega (arith, e, low));
  })

  -- if C3 holds at a place, the rules of the head's table hold there
  pub C3-rules : (place : ℕ) → Asks o.book.now w c 3 place → RulesAt o c.table place
  C3-rules place asks k s le lt e = from-net k s ((of-C3 o.book.now w c place asks).rules k s le lt e)

module _ (book : Book) (w : ℕ → ℕ) (c : CertValue) where
  no-rule : (n k s : ℕ) → k ≤ bidders_of book → s < states book → (bidders_of book + 1) * states book + n ≡ k * states book + s → ⊥
  no-rule n k s le lt e = omega (arith, e, number-below (bidders_of book) k s (states book) le lt)

  -- found when line 0 has come
  pub top-C3 : (entry_at c.table 0 (full book) ≤ℤ c.value) ↔ Asks book w c 3 ((bidders_of book + 1) * states book + 0)
  top-C3 = (
    λ low. asks-C3 book w c ((bidders_of book + 1) * states book + 0) (record {
      rules = λ k s le lt e. absurd (no-rule 0 k s le lt e);
      top = λ e. low;
      first =
          λ k lt e. absurd (omega (arith, e));
    }),
    λ asks. (of-C3 book w c ((bidders_of book + 1) * states book + 0) asks).top (omega arith),
  )

  -- found when line k + 1 has come
  pub first-C3 : (k : ℕ) → k < bidders_of book → NoEarlier (menu_of book) (net_of book) book.supply c.table c.choice c.value k ↔ Asks book w c 3
      ((bidders_of book + 1) * states book + suc k)
  first-C3 k lt = (
    λ none. asks-C3 book w c ((bidders_of book + 1) * states book + suc k) (record {
      rules = λ l s le lt2 e. absurd (no-rule (suc k) l s le lt2 e);
      top = λ e. absurd (omega (arith, e));
      first = λ l lt2 e. let same : k ≡ l = omega (arith, e) in subst (NoEarlier (menu_of book) (net_of book) book.supply c.table c.choice c.value) same none;
    }),
    λ asks. (of-C3 book w c ((bidders_of book + 1) * states book + suc k) asks).first k lt refl,
  )

  -- and after them nothing is asked
  pub past-C3 : (q : ℕ) → (bidders_of book + 1) * states book + (bidders_of book + 1) ≤ q → Asks book w c 3 q
  past-C3 q past = asks-C3 book w c q (record {
    rules = λ k s le lt e. absurd (omega (arith, e, past, number-below (bidders_of book) k s (states book) le lt));
    top = λ e. absurd (omega (arith, e, past));
    first = λ k lt e. absurd (omega (arith, e, past, lt));
  })
