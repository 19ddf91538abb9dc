use Rattle.std.proofs.Common.{sym, ◌∙◌}
use Rattle.weights_file.proofs.laws.one_text.Goals as goal

pub returns : goal.returns
returns c = λ book bytes other weights a b. a.spelled ∙ sym b.spelled
