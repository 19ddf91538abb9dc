use Rattle.std.proofs.Common.{◌≡◌, ℕ, ◌+◌, ◌*◌, ◌/◌, ◌%◌, ◌<◌, arith, length, ap, ◌∙◌, List, to_z, of_z}
use Rattle.std.specs.Prelude.{ℤ, pos, ◌≤ℤ◌}
use Rattle.std.specs.Int.{w128}
use Rattle.std.proofs.lemmas.Int.{ints}
use Rattle.lin_solve.specs.Matrix.{row}
use Rattle.lin_solve.proofs.Pushed.{grown, grown_length}
use Rattle.lin_solve.proofs.Reducing.{if_ok}
use Rattle.wide_num.specs.Sums.{nth}
use Rattle.nearest_point.specs.Found.{IsBelowBy, common, row_of}
use Rattle.nearest_point.proofs.Grams.{entry_at}
use Rattle.nearest_point.proofs.system.gram_matrix.Goals as goal

pub loop-place-preserved : goal.loop-place-preserved
loop-place-preserved c =
    let n = length c.args.forced.now in
    let s = c.common_weight.ensures.small in
    let x = to_z w128 (of_z w128 c.common_weight.result) in
    let back : x ≡ c.common_weight.result = omega (arith, ints) in
    let all = c.loop-place.invariant in
    record {
      long = grown_length c.loop-place.entries.items c.push.new.self.items x c.loop-place.place c.in_ok-push.ensures.items all.long;
      entries = grown (λ p z. z ≡ common (length c.args.lowered.now) (row_of c.args.rows.now c.args.forced.now (p / n))
          (row_of c.args.rows.now c.args.forced.now (p % n)) (nth c.args.lowered.now))
          c.loop-place.entries.items c.push.new.self.items x c.loop-place.place c.in_ok-push.ensures.items all.long all.entries
          (back ∙ c.common_weight.ensures.value);
      small = grown (λ p z. (top : ℕ) → IsBelowBy top c.args.lowered.now → (pos 0 ≤ℤ z) × (z ≤ℤ pos (length c.args.lowered.now * top)))
          c.loop-place.entries.items c.push.new.self.items x c.loop-place.place c.in_ok-push.ensures.items all.long all.small
          (λ top h. (let a = (s top h).0 in let b = (s top h).1 in (omega (arith, ints), omega (arith, ints))));
    }

pub returns-clause-entries : goal.returns-clause-entries
returns-clause-entries c =
    let n = length c.args.forced.now in
    if_ok c.new.result (λ m. (k i : ℕ) → k < n → i < n → row m k i ≡ nth c.deref.result.now (k * n + i))
    (λ m. (i k : ℕ) → i < n → k < n → row m i k ≡ common (length c.args.lowered.now) (row_of c.args.rows.now c.args.forced.now i)
    (row_of c.args.rows.now c.args.forced.now k) (nth c.args.lowered.now))
    (λ m h i k li lk. h i k li lk ∙ ap (λ (xs : List ℤ). nth xs (i * n + k)) c.deref.ensures.value
    ∙ entry_at n c.loop-place.place c.loop-place.entries.items (λ i k z. z ≡ common (length c.args.lowered.now) (row_of c.args.rows.now c.args.forced.now i)
    (row_of c.args.rows.now c.args.forced.now k) (nth c.args.lowered.now))
    c.loop-place.invariant.entries (omega arith) i k li lk)
    c.new.ensures.entries

pub returns-clause-small : goal.returns-clause-small
returns-clause-small c =
    let n = length c.args.forced.now in
    if_ok c.new.result (λ m. (k i : ℕ) → k < n → i < n → row m k i ≡ nth c.deref.result.now (k * n + i))
    (λ m. (top i k : ℕ) → IsBelowBy top c.args.lowered.now → i < n → k < n → (pos 0 ≤ℤ row m i k) × (row m i k ≤ℤ pos (length c.args.lowered.now * top)))
    (λ m h top i k w li lk.
    let e : row m i k ≡ nth c.loop-place.entries.items (i * n + k) = h i k li lk ∙ ap (λ (xs : List ℤ). nth xs (i * n + k)) c.deref.ensures.value in
    let s = entry_at n c.loop-place.place c.loop-place.entries.items (λ i k z. (top : ℕ) → IsBelowBy top c.args.lowered.now
    → (pos 0 ≤ℤ z) × (z ≤ℤ pos (length c.args.lowered.now * top))) c.loop-place.invariant.small (omega arith) i k li lk in
    let a = (s top w).0 in let b = (s top w).1 in (omega (arith, ints), omega (arith, ints)))
    c.new.ensures.entries
