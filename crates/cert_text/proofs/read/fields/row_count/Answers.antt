use Rattle.std.proofs.Common.{ap, sym, ◌∙◌, length, List}
use Rattle.std.specs.Prelude.{ℤ}
use Rattle.cert_grammar.proofs.Written.{long_numbers}
use Rattle.cert_text.proofs.read.fields.row_count.Goals as goal

pub returns-then-numbers-ne1 : goal.returns-then-numbers-ne1
returns-then-numbers-ne1 c = λ h. c.if-numbers-ne1.true (sym (long_numbers c.args.numbers.now) ∙ ap (λ (l : List ℤ). length l) h.1)
