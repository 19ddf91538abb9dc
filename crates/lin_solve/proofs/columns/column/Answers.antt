use Rattle.std.proofs.Common.{◌≡◌, ◌<◌, ◌∙◌, ◌∷◌, ◌++◌, [], ℕ, ℤ, FitsSigned, List, ap, arith, length, pos, rules, slice_index_or, subst, sym}
use Rattle.std.specs.Int.{w128}
use Rattle.std.proofs.lemmas.Grind.{elements}
use Rattle.std.proofs.lemmas.Int.{to_z-of_z}
use Rattle.std.proofs.lemmas.List.{get_or_default}
use Rattle.wide_num.specs.Sums.{nth}
use Rattle.lin_solve.specs.Matrix.{row}
use Rattle.lin_solve.proofs.Pushed.{grown, grown_length}
use Rattle.lin_solve.proofs.columns.column.Goals as goal

pub offset_bounds-items-i : goal.offset_bounds-items-i
offset_bounds-items-i c = grind (arith, elements)

pub bounds-items-i : goal.bounds-items-i
bounds-items-i c =
    let n = c.loop-line.line-index in
    let line : c.items.result.now ≡ slice_index_or c.args.lines.now n [] =
    c.items.ensures ∙ c.line-item.is ∙ get_or_default c.args.lines.now n _ _ c.loop-line-test.true in
    subst (λ (xs : List ℤ). c.args.i < length xs) (sym line) (c.requires n c.loop-line-test.true)

pub loop-line-preserved : goal.loop-line-preserved
loop-line-preserved c =
    let n = c.loop-line.line-index in
    let line : c.items.result.now ≡ slice_index_or c.args.lines.now n [] =
    c.items.ensures ∙ c.line-item.is ∙ get_or_default c.args.lines.now n _ _ c.loop-line-test.true in
    let x = nth c.items.result.now c.args.i in
    let fits : FitsSigned w128 (slice_index_or c.items.result.now c.args.i (pos 0)) = search rules in
    let pushed : c.push.new.self ≡ c.loop-line.out ++ x ∷ [] = c.in_ok-push.ensures ∙ ap (λ (y : ℤ). c.loop-line.out ++ y ∷ []) (to_z-of_z w128 x fits) in
    record {
      long = grown_length c.loop-line.out c.push.new.self x n pushed c.loop-line.invariant.long;
      is = grown (λ (m : ℕ) (y : ℤ). y ≡ row c.args.lines.now m c.args.i) c.loop-line.out c.push.new.self x n pushed c.loop-line.invariant.long
          c.loop-line.invariant.is (ap (λ (xs : List ℤ). nth xs c.args.i) line);
    }
