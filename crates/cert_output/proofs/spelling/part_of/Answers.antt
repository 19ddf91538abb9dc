use Rattle.std.proofs.Common.{◌∙◌, ◌-◌, List, ℤ, ap, drop, sym, take}
use Rattle.choices.specs.LentLines.{numbers_of}
use Rattle.choices.proofs.GridLaws.{part-short}
use Rattle.cert_output.proofs.spelling.part_of.Goals as goal

pub returns-in-Short : goal.returns-in-Short
returns-in-Short c =
    part-short (c.args.to - c.args.from) c.args.from c.in-Short.short.now
    ∙ ap (λ (l : List ℤ). take (c.args.to - c.args.from) (drop c.args.from l)) (sym (ap numbers_of c.in-Short.is))
