-- The list loop: a row whose pair is used is pushed.
use Rattle.std.proofs.Common.{◌≡◌, ◌<◌, ◌∙◌, ap, arith, length, get_or, pos, rules, sym, to_z, of_z, []}
use Rattle.std.proofs.lemmas.Int.{to_z-of_z}
use Rattle.std.specs.Int.{w128}
use Rattle.wide_num.specs.Sums.{nth}
use Rattle.core_price.specs.Kept.{pair_used}
use Rattle.core_price.proofs.KeptLaws.{any-default, kept-one, kept-none}
use Rattle.core_price.proofs.kept.kept_rows.Goals as goal
use Rattle.core_price.proofs.kept.kept_rows.Goals.{then-is_used+in_ok-choice+in_ok-push, else-is_used}

pub loop-i-preserved : goal.loop-i-preserved
loop-i-preserved c =
    let i = c.loop-i.i in
    let rows = c.args.asked.now.rows.items in
    let choices = c.args.asked.now.choices.items in
    let first = c.args.near.now.first in
    let second = c.args.near.now.second in
    let r : i < length rows = omega (arith, c.loop-i-test.true, ap length c.deref-row-items.ensures.value) in
    let k : i < length choices = omega (arith, r, c.requires.choices) in
    let f : i < length first = omega (arith, r, c.requires.first) in
    let s : i < length second = omega (arith, r, c.requires.second) in
    let d : to_z w128 (of_z w128 (nth first i)) ≡ nth first i = to_z-of_z w128 (nth first i) (search rules) in
    let e : to_z w128 (of_z w128 (nth second i)) ≡ nth second i = to_z-of_z w128 (nth second i) (search rules) in
    let used : c.is_used.result ≡ pair_used (nth first i) (nth second i) = rw (c.items.ensures, c.items-in-loop-i.ensures, d, e) at c.is_used.ensures in
    elim c.if-is_used.branch [
      | then-is_used+in_ok-choice+in_ok-push w ↦
          let choice : w.in_ok-choice.choice ≡ get_or choices i [] = w.in_ok-choice.ensures ∙ w.index.ensures ∙ any-default choices i w.index.result.now [] k in
          let row : get_or c.deref-row-items.result.now i (record { members = 0; bound = pos 0 }) ≡ get_or rows i (record { members = 0; bound = pos 0 }) =
          ap (λ l. get_or l i (record { members = 0; bound = pos 0 })) c.deref-row-items.ensures.value in
          rw (w.kept-is, w.in_ok-push.ensures.pushed)
          (kept-one rows choices first second c.loop-i.kept _ i r k f s c.loop-i.invariant _ w.in_ok-choice.choice _ _ row choice
          (rw c.items.ensures d) (rw c.items-in-loop-i.ensures e) (sym c.is_used.ensures ∙ w.if-is_used.true))
      | else-is_used w ↦ rw w.kept-is (kept-none rows choices first second c.loop-i.kept _ i r k f s c.loop-i.invariant (sym used ∙ w.if-is_used.false))
    ]
