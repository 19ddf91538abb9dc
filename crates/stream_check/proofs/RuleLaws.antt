-- The first fault among the rules of a table, and what it says of the tests.
use Rattle.std.proofs.Common.{◌≡◌, ℕ, zero, suc, ◌+◌, ◌-◌, ◌*◌, ◌<◌, ◌≤◌, inl, inr, sym, ap, subst, arith}
use Rattle.std.proofs.Math.Nat.{mul-le-mul_left}
use Rattle.std.proofs.lemmas.Bool.{cases_lt}
use Rattle.std.proofs.lemmas.Bool.Decides.{nat_tests}
use Rattle.std.specs.Prelude.{Option, Some, None, Bool, true, false, nat_lt, if◌then◌else◌}
use Rattle.auction_model.specs.Book.{Book}
use Rattle.cert_grammar.specs.Certificate.{CertValue}
use Rattle.cert_soundness.specs.Tests.{Asks, FailsFirst}
use Rattle.table_check.specs.Faults.{FirstFault}
use Rattle.cert_check.specs.Partway.{failure_at, HoldsTo, IsJudged}
use Rattle.stream_check.specs.Rules.{IsFirstBetween, lines_tested}

-- all places hold up to the end of those that were tested
between-holds : (book : Book) (w : ℕ → ℕ) (c : CertValue) (test from to : ℕ) → from ≤ to → HoldsTo book w c test from
    → IsFirstBetween (Asks book w c test) from to None → HoldsTo book w c test to
between-holds book w c test from to le before more u q (inl less) = before u q (inl less)
between-holds book w c test from to le before more u q (inr (same, low)) =
    elim (cases_lt q from) [
      | inl lt ↦ before u q (inr (same, lt))
      | inr past ↦ subst (λ (x : ℕ). Asks book w c x q) (sym same) (more q past low)
    ]

-- the first one that doesn't is what fails first
between-fails : (book : Book) (w : ℕ → ℕ) (c : CertValue) (test from to p : ℕ) → HoldsTo book w c test from
    → IsFirstBetween (Asks book w c test) from to (Some p) → FailsFirst book w c test p
between-fails book w c test from to p before f = record {
  fails = f.2;
  before = between-holds book w c test from p f.0 before f.3;
}

-- what fails first after rules that a test asks at the same numbers
pub between-judged : (book : Book) (w : ℕ → ℕ) (c : CertValue) (test from to : ℕ) (found : Option ℕ) → from ≤ to → HoldsTo book w c test from
    → IsFirstBetween (Asks book w c test) from to found → IsJudged book w c test to (failure_at test found)
between-judged book w c test from to None le before f = between-holds book w c test from to le before f
between-judged book w c test from to (Some place) le before f = between-fails book w c test from to place before f

-- tests that ask the same between these numbers have the same first fault
pub between-same : (P Q : ℕ → Type 0) (from to : ℕ) (r : Option ℕ) → ((q : ℕ) → q < to → P q → Q q) → ((q : ℕ) → Q q → P q) → IsFirstBetween P from to r
    → IsFirstBetween Q from to r
between-same P Q from to None there back f = λ q low high. there q high (f q low high)
between-same P Q from to (Some p) there back f = (f.0, f.1, λ own. f.2 (back p own), λ q low lt. there q (omega (arith, lt, f.1)) (f.3 q low lt))

-- one after another
pub between-both : (P : ℕ → Type 0) (from mid to : ℕ) (r : Option ℕ) → from ≤ mid → mid ≤ to → IsFirstBetween P from mid None → IsFirstBetween P mid to r
    → IsFirstBetween P from to r
between-both P from mid to None le more first rest = λ q low high.
    elim (cases_lt q mid) [
      | inl lt ↦ first q low lt
      | inr past ↦ rest q past high
    ]
between-both P from mid to (Some p) le more first rest = (
  omega (arith, le, rest.0),
  rest.1,
  rest.2,
  λ q low lt. elim (cases_lt q mid) [
    | inl in_front ↦ first q low in_front
    | inr past ↦ rest.3 q past lt
  ],
)

-- a fault that is found holds for more as well
pub between-first : (P : ℕ → Type 0) (from mid to p : ℕ) → mid ≤ to → IsFirstBetween P from mid (Some p) → IsFirstBetween P from to (Some p)
between-first P from mid to p le f = (f.0, omega (arith, f.1, le), f.2, f.3)

-- nothing is between equal numbers
pub between-none : (P : ℕ → Type 0) (from to : ℕ) → to ≤ from → IsFirstBetween P from to None
between-none P from to le q low high = absurd (omega (arith, le, low, high))

-- the first fault of a line as that of its numbers
pub line-between : (P : ℕ → Type 0) (k size fault : ℕ) (r : Option ℕ) → FirstFault (λ s. P (k * size + s)) size fault
    → (fault < size → r ≡ Some (k * size + fault)) → (size ≤ fault → r ≡ None)
    → IsFirstBetween P (k * size) (suc k * size) r
line-between P k size fault r f some none =
    elim (cases_lt fault size) [
      | inl low ↦ subst (IsFirstBetween P (k * size) (suc k * size)) (sym (some low)) (
        omega arith,
        omega (arith, low),
        f.fails low,
        λ q from lt. at q from (f.before (q - k * size) (omega (arith, from, lt))),
      )
      | inr past ↦ subst (IsFirstBetween P (k * size) (suc k * size)) (sym (none past))
          (λ q from lt. at q from (f.before (q - k * size) (omega (arith, from, lt, past))))
    ]
  where
    at : (q : ℕ) → k * size ≤ q → P (k * size + (q - k * size)) → P q
    at q from own = let same : k * size + (q - k * size) ≡ q = omega (arith, from) in subst P same own

-- how many lines are tested
pub tested-inside : (b k : ℕ) → k < b → lines_tested b k ≡ k
tested-inside b k lt = ap (λ (x : Bool). if x then k else suc b) (below lt)
  where
    below : k < b → nat_lt k b ≡ true
    below lt = grind (arith, nat_tests, lt)

-- when the last line has come, all lines are tested
pub tested-all : (b k : ℕ) → b ≤ k → lines_tested b k ≡ suc b
tested-all b k le = ap (λ (x : Bool). if x then k else suc b) (past le)
  where
    past : b ≤ k → nat_lt k b ≡ false
    past le = grind (arith, nat_tests, le)

-- no line is before line 0
pub none-before : (P : ℕ → Type 0) (k s : ℕ) → k ≡ 0 → IsFirstBetween P ((k - 1) * s) (k * s) None
none-before P zero s e q low high = absurd (omega (arith, high))
none-before P (suc k) s e q low high = absurd (omega (arith, e))

-- a line that isn't the last is tested with the next one
pub none-own : (P : ℕ → Type 0) (b k s : ℕ) → k < b → IsFirstBetween P (k * s) (lines_tested b k * s) None
none-own P b k s lt = subst (λ (n : ℕ). IsFirstBetween P (k * s) (n * s) None) (sym (tested-inside b k lt)) (between-none P (k * s) (k * s) (omega arith))

-- the numbers of lines rise
pub lines-rise : (b k s : ℕ) → k ≤ b → ((k - 1) * s ≤ k * s) × (k * s ≤ lines_tested b k * s)
lines-rise b k s le = (
  (let up : k - 1 ≤ k = omega arith in omega (arith, mul-le-mul_left s up)),
  elim (cases_lt k b) [
    | inl lt ↦ subst (λ (n : ℕ). k * s ≤ n * s) (sym (tested-inside b k lt)) (omega arith)
    | inr past ↦ subst (λ (n : ℕ). k * s ≤ n * s) (sym (tested-all b k past)) (let up : k ≤ suc b = omega (arith, le) in omega (arith, mul-le-mul_left s up))
  ],
)
