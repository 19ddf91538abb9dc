use Rattle.std.proofs.Common.{◌≡◌, ◌≢◌, ◌≤◌, ◌<◌, ◌+◌, ◌-◌, ℕ, List, inl, inr, subst, get_or, pos, ◌∙◌, arith, rules, FitsSigned}
use Rattle.std.proofs.lemmas.Bool.{cases_lt}
use Rattle.std.specs.Prelude.{ℤ}
use Rattle.cert_stream.specs.Order.{NoneFrom}
use Rattle.std.specs.Int.{w128}
use Rattle.std.proofs.lemmas.Int.{to_z-of_z}
use Rattle.cert_stream.proofs.Plans.{no_part, a_part, last_part}
use Rattle.cert_stream.proofs.Comings.{skips, finds, pays}
use Rattle.cert_stream.proofs.next.next_part.Goals as goal

-- one place more
none-more : (choice : List ℤ) (from k : ℕ) → NoneFrom choice from k → get_or choice k (pos 0) ≡ pos 0 → NoneFrom choice from (k + 1)
none-more choice from k none own q low high =
    elim (cases_lt q k) [
      | inl lt ↦ none q low lt
      | inr ge ↦ (let same : k ≡ q = omega (arith, ge, high) in subst (λ (x : ℕ). get_or choice x (pos 0) ≡ pos 0) same own)
    ]

-- the part at this place is the next
next-there : (choice : List ℤ) (from k : ℕ) → from ≤ k → (get_or choice k (pos 0) ≡ pos 0 → ⊥) → NoneFrom choice from k
    → (from < k + 1) × (get_or choice (k + 1 - 1) (pos 0) ≢ pos 0) × NoneFrom choice from (k + 1 - 1)
next-there choice from k le some none =
    let back : k ≡ k + 1 - 1 = omega arith in
    (omega (arith, le), subst (λ (x : ℕ). get_or choice x (pos 0) ≢ pos 0) back some, subst (λ (x : ℕ). NoneFrom choice from x) back none)

pub loop-k-preserved : goal.loop-k-preserved
loop-k-preserved c =
    let b = c.args.shape.bidders in
    let s = c.args.shape.states in
    let f : FitsSigned w128 (get_or c.args.choice.now c.loop-k.k (pos 0)) = search rules in
    let none : get_or c.args.choice.now c.loop-k.k (pos 0) ≡ pos 0 = simp to_z-of_z at (c.is_zero.ensures.0 c.if-not-is_zero.false) in
    record {
      plan = c.loop-k.invariant.plan ∙ no_part b s c.args.choice.now c.loop-k.k (omega (arith, c.requires.choice, c.loop-k-test.true)) none;
      left = λ cert is known. c.loop-k.invariant.left cert is known ∙ skips b s cert is c.args.choice.now known c.loop-k.k
          (omega (arith, c.requires.choice, c.loop-k-test.true)) none;
      low = omega (arith, c.loop-k.invariant.low);
      none = none-more c.args.choice.now c.args.from c.loop-k.k c.loop-k.invariant.none none;
    }

pub returns-then-not-is_zero-clause-order : goal.returns-then-not-is_zero-clause-order
returns-then-not-is_zero-clause-order c =
    let f : FitsSigned w128 (get_or c.args.choice.now c.loop-k.k (pos 0)) = search rules in
    let some : get_or c.args.choice.now c.loop-k.k (pos 0) ≡ pos 0 → ⊥ = λ none. let yes = c.is_zero.ensures.1 (simp to_z-of_z none) in
    cc (yes, c.if-not-is_zero.true) in
    next-there c.args.choice.now c.args.from c.loop-k.k c.loop-k.invariant.low some c.loop-k.invariant.none

pub returns-clause-order : goal.returns-clause-order
returns-clause-order c = λ q from low. c.loop-k.invariant.none q from (omega (arith, low, c.loop-k-test.false, c.requires.choice))

pub returns-then-not-is_zero-clause-plan : goal.returns-then-not-is_zero-clause-plan
returns-then-not-is_zero-clause-plan c =
    let f : FitsSigned w128 (get_or c.args.choice.now c.loop-k.k (pos 0)) = search rules in
    c.loop-k.invariant.plan ∙ a_part c.args.shape.bidders c.args.shape.states c.args.choice.now c.loop-k.k
    (omega (arith, c.requires.choice, c.loop-k-test.true))
    (λ none. let yes = c.is_zero.ensures.1 (simp to_z-of_z none) in cc (yes, c.if-not-is_zero.true))

pub returns-then-not-is_zero-clause-left : goal.returns-then-not-is_zero-clause-left
returns-then-not-is_zero-clause-left c = λ cert is known.
    let f : FitsSigned w128 (get_or c.args.choice.now c.loop-k.k (pos 0)) = search rules in
    let found = finds c.args.shape.bidders c.args.shape.states cert is c.args.choice.now known c.loop-k.k (omega (arith, c.requires.choice, c.loop-k-test.true))
    (λ none. let yes = c.is_zero.ensures.1 (simp to_z-of_z none) in cc (yes, c.if-not-is_zero.true)) in
    (c.loop-k.invariant.left cert is known ∙ found.0, found.1)

pub returns-clause-plan : goal.returns-clause-plan
returns-clause-plan c = c.loop-k.invariant.plan ∙ last_part c.args.shape.bidders c.args.shape.states c.args.choice.now c.loop-k.k
    (omega (arith, c.requires.choice, c.requires.from, c.loop-k-test.false))

pub returns-clause-left : goal.returns-clause-left
returns-clause-left c = λ cert is known. (
  c.loop-k.invariant.left cert is known ∙ pays c.args.shape.bidders c.args.shape.states cert is c.args.choice.now known c.loop-k.k
      (omega (arith, c.requires.choice, c.requires.from, c.loop-k-test.false)),
  tt,
)
