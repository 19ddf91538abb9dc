use Rattle.std.proofs.Common.{◌∙◌, ◌++◌, List, ℕ, ap}
use Rattle.cert_grammar.specs.CertText.{table_lines}
use Rattle.cert_text.proofs.Written.{adds_both}
use Rattle.cert_output.specs.CertLines.{lines_to_part_table}
use Rattle.cert_output.proofs.from_cert.add_part.Goals as goal

pub returns : goal.returns
returns c =
    adds_both c.args.long.now c.add_text.new.self c.add_shared.new.long (lines_to_part_table c.args.part.now) (table_lines c.args.part.now.table)
    (c.in_ok-add_text.ensures ∙ ap (λ (t : List ℕ). c.args.long.now ++ t) c.in_ok-text.ensures) c.in_ok-add_shared.ensures
