use Rattle.std.proofs.Common.{◌∙◌, ℤ, List, ap, length, subst, sym}
use Rattle.table_check.specs.Narrow.{IsSmall}
use Rattle.table_check.proofs.rule.LinePair.in_64_bits.Goals as goal

pub invariant_of-result : goal.invariant_of-result
invariant_of-result c =
    let lines = c.args.self.now in
    let narrow = lines.narrow c.requires in
    record {
      places = ap (λ (l : List ℤ). length l) narrow.same_below ∙ lines.places ∙ sym (ap (λ (l : List ℤ). length l) narrow.same);
      small = subst IsSmall (sym narrow.same) narrow.small;
      small_below = subst IsSmall (sym narrow.same_below) narrow.small_below;
    }

pub returns-clause-line : goal.returns-clause-line
returns-clause-line c = (c.args.self.now.narrow c.requires).same

pub returns-clause-below : goal.returns-clause-below
returns-clause-below c = (c.args.self.now.narrow c.requires).same_below
