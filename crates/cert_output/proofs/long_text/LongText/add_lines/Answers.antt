use Rattle.std.proofs.Common.{◌∙◌, ◌++◌, List, ℕ, ap}
use Rattle.cert_grammar.specs.CertText.{table_lines}
use Rattle.cert_text.specs.Written.{bytes_of}
use Rattle.cert_output.specs.TextParts.{all_bytes}
use Rattle.cert_output.specs.declared.part.Part.TheVariants.{Lines}
use Rattle.cert_output.proofs.LinePieces.{part-behind}
use Rattle.cert_output.proofs.long_text.LongText.add_lines.Goals as goal

pub returns : goal.returns
returns c =
    ap all_bytes c.in_ok-push.ensures.items
    ∙ part-behind c.self.inside.parts.items (Lines c.args.table)
    ∙ ap (λ (t : List ℕ). t ++ bytes_of (table_lines c.args.table)) c.self.view_is
