use Rattle.std.proofs.Common.{subst, sym}
use Rattle.std.specs.List.{AllByRecursion}
use Rattle.outcome.specs.Turns.{CanPrintTurn}
use Rattle.cca_commands.proofs.pricing.priced_texts.Goals as goal

pub price_text-requires-clause-turns : goal.price_text-requires-clause-turns
price_text-requires-clause-turns c =
    subst (λ turns. AllByRecursion (CanPrintTurn c.args.priced.now.cert.choice) turns) (sym c.items.ensures) c.requires.turns

pub returns-clause-done : goal.returns-clause-done
returns-clause-done c = (rw c.items.ensures at c.in_ok-printed.ensures, c.in_ok-cert.ensures)
