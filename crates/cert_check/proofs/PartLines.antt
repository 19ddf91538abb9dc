-- The table of a part, two lines at a time.
use Rattle.std.specs.Prelude.{◌≡◌, ℕ, ◌+◌, ◌*◌, ◌<◌, ◌≤◌, List, ℤ, refl}
use Rattle.std.proofs.Common.{sym, subst, arith}
use Rattle.auction_model.specs.Book.{menu_of, net_of}
use Rattle.auction_model.specs.Menu.{without}
use Rattle.cert_grammar.specs.Certificate.{WithoutValue}
use Rattle.cert_soundness.specs.Tests.{IsPart, ObeysAt, bidders_of, states}
use Rattle.cert_soundness.proofs.Places.{one_place}
use Rattle.table_check.specs.Faults.{FirstFault}
use Rattle.table_check.specs.LineTests.{offered, worth_of, ObeysIn, RulesAt}
use Rattle.table_check.specs.declared.offers.TestedBids.{TestedBids}
use Rattle.cert_check.proofs.Worths.{obeys-same}

-- the offers are the bids of all but one bidder, at their net amounts
module _ (o : TestedBids) (j : ℕ) (part : WithoutValue) (nobody : o.skip ≡ j) (net : (i n : ℕ) → 0 < i → i ≤ bidders_of o.book.now
    → worth_of o i n ≡ net_of o.book.now i n) where
  to-net : (k s : ℕ) → ObeysAt (offered o) (worth_of o) o.book.now.supply part.table k s → ObeysAt (without (menu_of o.book.now) j)
      (net_of o.book.now) o.book.now.supply part.table k s
  to-net k s obeys =
      obeys-same (without (menu_of o.book.now) j) (worth_of o) (net_of o.book.now) o.book.now.supply part.table net k s
      (subst (λ (n : ℕ). ObeysAt (without (menu_of o.book.now) n) (worth_of o) o.book.now.supply part.table k s) nobody obeys)

  from-net : (k s : ℕ) → ObeysAt (without (menu_of o.book.now) j) (net_of o.book.now) o.book.now.supply part.table k s
      → ObeysAt (offered o) (worth_of o) o.book.now.supply part.table k s
  from-net k s obeys =
      subst (λ (n : ℕ). ObeysAt (without (menu_of o.book.now) n) (worth_of o) o.book.now.supply part.table k s) (sym nobody)
      (obeys-same (without (menu_of o.book.now) j) (net_of o.book.now) (worth_of o) o.book.now.supply part.table
      (λ i n some inside. sym (net i n some inside)) k s obeys)

  -- the rules at a number of a line and a place are those that the part owes there
  pub rules-part : (k s : ℕ) → k ≤ bidders_of o.book.now → s < states o.book.now → RulesAt o part.table (k * states o.book.now + s)
      → ObeysAt (without (menu_of o.book.now) j) (net_of o.book.now) o.book.now.supply part.table k s
  rules-part k s le lt rules = to-net k s (rules k s le lt refl)

  -- a part that shows the best choice keeps all rules
  pub part-rules : (place : ℕ) → IsPart o.book.now j part → RulesAt o part.table place
  part-rules place is k s le lt e = from-net k s (is.rules k s le lt)

-- a fault of a line at a place is one of the rules at the number of both
pub fault-rules : (o : TestedBids) (table : List (List ℤ)) (k r : ℕ) → k ≤ bidders_of o.book.now → FirstFault (ObeysIn o table k) (states o.book.now) r
    → FirstFault (λ s. RulesAt o table (k * states o.book.now + s)) (states o.book.now) r
fault-rules o table k r le f = record {
  within = f.within;
  before = λ s low l t ll lt e.
      let p = one_place (states o.book.now) k s l t (omega (arith, low, f.within)) lt e in
      subst (λ (x : ℕ). ObeysAt (offered o) (worth_of o) o.book.now.supply table x t) p.0
      (subst (λ (x : ℕ). ObeysAt (offered o) (worth_of o) o.book.now.supply table k x) p.1 (f.before s low (omega (arith, low, f.within))));
  fails = λ low rules. f.fails low (λ in_line. rules k r le low refl);
}
