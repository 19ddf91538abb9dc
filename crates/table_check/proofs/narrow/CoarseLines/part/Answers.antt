use Rattle.std.proofs.Common.{◌≡◌, ◌+◌, ◌-◌, ◌^◌, arith}
use Rattle.choices.proofs.CoarseLaws.{coarse-part}
use Rattle.table_check.proofs.narrow.CoarseLines.part.Goals as goal

pub invariant_of-result : goal.invariant_of-result
invariant_of-result c =
    let lines = c.args.self.now in
    let here = c.args.here in
    let rest = c.args.rest in
    let width = c.args.width in
    let k : here + width - here ≡ width = omega arith in
    let m : rest + width - rest ≡ width = omega arith in
    record {
      range = lines.range;
      coarse = rw (c.part.ensures.line, c.part.ensures.below, k, m) (coarse-part (2 ^ lines.shift) lines.narrow.line.now lines.narrow.below.now
          lines.low.now lines.high.now here rest width width c.requires.here (omega (arith, c.requires.rest, lines.narrow.places)) lines.coarse);
    }
