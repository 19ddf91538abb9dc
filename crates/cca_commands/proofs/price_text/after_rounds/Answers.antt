use Rattle.std.proofs.Common.{◌∙◌, ap, ◌++◌}
use Rattle.cca_commands.proofs.price_text.after_rounds.Goals as goal

pub returns : goal.returns
returns c = (c.in_ok-text.text, c.in_ok-text.ensures, c.in_ok-add.ensures ∙ ap (λ l. c.in_ok-text.text ++ l) c.items.ensures)
