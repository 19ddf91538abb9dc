use Rattle.std.proofs.lemmas.Grind.{common_steps}
use Rattle.std.proofs.Common.{◌∙◌, ◌^◌, List, ℕ, map, pos, rules, subst, sym, arith}
use Rattle.value_table.specs.Counted.{IsCountedLine}
use Rattle.value_table.proofs.Sizes.{line-within, line-sign}
use Rattle.value_table.proofs.turn_lines.lines_from.Goals as goal

pub short_lines_down-requires-clause-first : goal.short_lines_down-requires-clause-first
short_lines_down-requires-clause-first c =
    subst (λ (ns : List ℕ). IsCountedLine c.args.lowered.now c.args.top (map (λ n. pos n) ns)) (sym c.in_ok-short.ensures.items) (search rules)

pub narrow_into-requires-clause-sizes : goal.narrow_into-requires-clause-sizes
narrow_into-requires-clause-sizes c = λ s.
    let l = c.args.lowered.now in
    let own = subst (IsCountedLine l c.args.top) (sym (c.deref.ensures.value ∙ c.in_ok-wide.ensures)) c.requires.first in
    line-within l (2 ^ 61) (c.is_narrow.ensures c.if-is_narrow.true) c.args.top c.deref.result.now own s

pub narrow_into-requires-clause-signs : goal.narrow_into-requires-clause-signs
narrow_into-requires-clause-signs c = λ s.
    let l = c.args.lowered.now in
    let own = subst (IsCountedLine l c.args.top) (sym (c.deref.ensures.value ∙ c.in_ok-wide.ensures)) c.requires.first in
    line-sign l c.args.top c.deref.result.now c.requires.top own s

pub lines_down-requires-clause-first : goal.lines_down-requires-clause-first
lines_down-requires-clause-first c = grind (arith, common_steps)

pub lines_down-requires-2-clause-first : goal.lines_down-requires-2-clause-first
lines_down-requires-2-clause-first c = grind (arith, common_steps)
