-- The rules of a table, from those of its lines.
use Rattle.std.specs.Prelude.{List, None, Some, refl, suc, ℕ, ℤ, ◌*◌, ◌+◌, ◌<ℤ◌, ◌<◌, ◌≤ℤ◌, ◌≤◌}
use Rattle.std.proofs.Common.{inl, inr, arith}
use Rattle.std.proofs.lemmas.Bool.{cases_lt}
use Rattle.std.proofs.lemmas.Int.{ints}
use Rattle.std.proofs.Math.Nat.{mul-le-mul_left}
use Rattle.auction_model.specs.Table.{entry_at}
use Rattle.cert_grammar.specs.CertText.{IsTable}
use Rattle.cert_soundness.specs.Tests.{bidders_of, full, states}
use Rattle.cert_soundness.proofs.Places.{first_rule}
use Rattle.table_check.specs.Faults.{FirstFault}
use Rattle.cert_check.specs.Places.{IsFirstFailing}
use Rattle.table_check.specs.LineTests.{offered, worth_of, ObeysIn, RulesAt, TestsTable}
use Rattle.table_check.specs.declared.offers.TestedBids.{TestedBids}

module _ (o : TestedBids) (table : List (List ℤ)) (is : IsTable (bidders_of o.book.now) (states o.book.now) table) where
  -- the lines before keep the rules, and this one does below r
  pub table-fails : (k r : ℕ) → k ≤ bidders_of o.book.now → r < states o.book.now → ((l s : ℕ) → l < k → ObeysIn o table l s)
      → FirstFault (ObeysIn o table k) (states o.book.now) r
      → IsFirstFailing (RulesAt o table) (Some (k * states o.book.now + r))
  table-fails k r le lt lines f =
      let p = first_rule (offered o) (worth_of o) o.book.now.supply table k r le lt (λ l t less in_line. lines l t less in_line)
      (λ t less. f.before t less (omega (arith, less, lt))) (λ obeys. f.fails lt (λ inside. obeys)) in
      (p.1, p.0)

  -- a line whose first fault is after its places keeps its rules everywhere
  pub line-keeps : (k r : ℕ) → states o.book.now ≤ r → FirstFault (ObeysIn o table k) (states o.book.now) r → (s : ℕ) → ObeysIn o table k s
  line-keeps k r past f s lt = f.before s (omega (arith, lt, past)) lt

-- after the numbers of all lines and places
pub number-below : (b k s S : ℕ) → k ≤ b → s < S → k * S + s < (b + 1) * S
number-below b k s S le lt =
    let up : suc k ≤ b + 1 = omega (arith, le) in
    omega (arith, lt, mul-le-mul_left S up)

module _ (o : TestedBids) (table : List (List ℤ)) where
  past-rules : (place : ℕ) → (bidders_of o.book.now + 1) * states o.book.now ≤ place → RulesAt o table place
  past-rules place past k s le lt e = absurd (omega (arith, past, e, number-below (bidders_of o.book.now) k s (states o.book.now) le lt))

  -- a rule is broken
  pub test-rule : (most : ℤ) (p : ℕ) → IsFirstFailing (RulesAt o table) (Some p) → IsFirstFailing (TestsTable o table most) (Some p)
  test-rule most p f =
      let low : p < (bidders_of o.book.now + 1) * states o.book.now = elim (cases_lt p ((bidders_of o.book.now + 1) * states o.book.now)) [
        | inl lt ↦ lt
        | inr past ↦ absurd (f.0 (past-rules p past))
      ] in (
        λ t. f.0 t.rules,
        λ q lt. record { rules = f.1 q lt; top = λ e. absurd (omega (arith, lt, low, e)) },
      )

  -- no rule is broken
  pub test-most : (most : ℤ) → IsFirstFailing (RulesAt o table) None → most <ℤ entry_at table 0 (full o.book.now)
      → IsFirstFailing (TestsTable o table most) (Some ((bidders_of o.book.now + 1) * states o.book.now))
  test-most most f more = (
    λ t. (let top = t.top refl in absurd (omega (arith, ints, top, more))),
    λ q lt. record { rules = f q; top = λ e. absurd (omega (arith, lt, e)) },
  )

  -- no rule is broken, and line 0 has no more than it may: the test holds everywhere
  pub test-holds : (most : ℤ) → IsFirstFailing (RulesAt o table) None → entry_at table 0 (full o.book.now) ≤ℤ most
      → IsFirstFailing (TestsTable o table most) None
  test-holds most f le place = record { rules = f place; top = λ e. le }
