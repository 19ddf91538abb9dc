use Rattle.std.proofs.Common.{◌∙◌, ◌++◌, List, ℕ, ap}
use Rattle.cert_output.specs.TextParts.{all_bytes}
use Rattle.cert_output.specs.declared.part.Part.TheVariants.{Bytes}
use Rattle.cert_output.proofs.LinePieces.{part-behind}
use Rattle.cert_output.proofs.long_text.LongText.add_text.Goals as goal

pub returns : goal.returns
returns c =
    ap all_bytes c.in_ok-push.ensures.items
    ∙ part-behind c.self.inside.parts.items (Bytes c.args.text)
    ∙ ap (λ (t : List ℕ). t ++ c.args.text) c.self.view_is
