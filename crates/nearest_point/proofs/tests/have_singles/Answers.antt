use Rattle.std.proofs.Common.{◌≡◌, ℕ, ◌*◌, ◌%◌, ◌^◌, ◌<◌, arith, ap, ◌∙◌, below_more, List, length, Option, Some, None, true, is_some, IfSome}
use Rattle.std.proofs.Math.Nat.{mod-eq_of_lt}
use Rattle.std.proofs.Math.Pow.{pow-lt}
use Rattle.far_num.specs.declared.Row.{Row}
use Rattle.nearest_point.specs.Problem.{row_at}
use Rattle.nearest_point.proofs.tests.have_singles.Goals as goal

single_at : (rows : List Row) (j m : ℕ) (o : Option ℕ) → m ≡ 2 ^ j → is_some o ≡ true → IfSome o (λ i. (i < length rows) × ((row_at rows i).members ≡ m))
    → (i : ℕ) × (i < length rows) × ((row_at rows i).members ≡ 2 ^ j)
single_at rows j m (Some i) e is h = (i, h.0, h.1 ∙ e)
single_at rows j m None e is h = absurd (not_both is)
  where
    not_both : is_some (let o : Option ℕ = None in o) ≡ true → ⊥
    not_both e = cc

pub loop-j-preserved : goal.loop-j-preserved
loop-j-preserved c =
    let j = c.loop-j.j in
    let below : j < 16 = (let r = c.requires in let t = c.loop-j-test.true in omega arith) in
    let p : 2 ^ j < 2 ^ 16 = pow-lt below in
    let one : 1 * 2 ^ j ≡ 2 ^ j = omega arith in
    let m : 1 * 2 ^ j % 65536 ≡ 2 ^ j = ap (λ (n : ℕ). n % 65536) one ∙ mod-eq_of_lt p in
    record {
      singles = below_more (λ j. (i : ℕ) × (i < length c.args.rows.now) × ((row_at c.args.rows.now i).members ≡ 2 ^ j)) j c.loop-j.invariant.singles
          (single_at c.args.rows.now j (1 * 2 ^ j % 65536) c.find_row.result m c.if-is_none.ensures c.find_row.ensures);
    }
