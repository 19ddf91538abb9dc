use Rattle.std.proofs.Common.{◌≡◌, ◌∙◌, ◌+◌, ◌-◌, arith, sym}
use Rattle.table_check.proofs.CornerLaws.{part-length, part-small}
use Rattle.table_check.proofs.narrow.NarrowLines.part.Goals as goal

pub invariant_of-result : goal.invariant_of-result
invariant_of-result c =
    let lines = c.args.self.now in
    let here = c.args.here in
    let rest = c.args.rest in
    let k = here + c.args.width - here in
    let m = rest + c.args.width - rest in
    let same : m ≡ k = omega arith in
    record {
      places = part-length lines.below.now rest m (omega (arith, c.requires.rest, lines.places)) ∙ same
          ∙ sym (part-length lines.line.now here k (omega (arith, c.requires.here)));
      small = part-small lines.line.now here k lines.small;
      small_below = part-small lines.below.now rest m lines.small_below;
    }
