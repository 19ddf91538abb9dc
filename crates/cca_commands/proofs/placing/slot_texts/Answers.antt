use Rattle.std.proofs.Common.{subst, sym}
use Rattle.std.specs.List.{AllByRecursion}
use Rattle.outcome.specs.Turns.{CanPrintTurn}
use Rattle.cca_commands.proofs.placing.slot_texts.Goals as goal

pub placed_lines-requires-clause-turns : goal.placed_lines-requires-clause-turns
placed_lines-requires-clause-turns c =
    subst (λ turns. AllByRecursion (CanPrintTurn c.args.priced.now.cert.choice) turns) (sym c.items.ensures) c.requires.turns

pub returns : goal.returns
returns c = (rw c.items.ensures at c.in_ok-printed.ensures, c.in_ok-cert.ensures)
