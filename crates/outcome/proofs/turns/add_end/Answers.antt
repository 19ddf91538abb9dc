use Rattle.std.proofs.Common.{rules, OnOk, length, sym, subst, Option, FitsSigned, ℤ, Some}
use Rattle.std.specs.Option.{option_map}
use Rattle.std.specs.Int.{w128}
use Rattle.std.proofs.lemmas.Int.{to_z-of_z}
use Rattle.blocking.specs.declared.look.Block.{Block}
use Rattle.blocking.specs.Look.{block_of}
use Rattle.print_grammar.specs.Turns.{IsTurnEnd}
use Rattle.outcome.specs.Turns.{Grows}
use Rattle.outcome.proofs.turns.add_end.Goals as goal

pub returns-in-Some : goal.returns-in-Some
returns-in-Some c =
    let fits : FitsSigned w128 c.args.turn.now.den = search rules in
    let at-den = subst (λ (d : ℤ). OnOk c.add_block.result (Grows c.args.text.now c.add_block.new.text
    (IsTurnEnd (length c.args.winners.now) d (Some (block_of c.args.winners.now c.in-Some.block)))))
    (to_z-of_z w128 c.args.turn.now.den fits) c.add_block.ensures in
    subst (λ (o : Option Block). OnOk c.add_block.result (Grows c.args.text.now c.add_block.new.text
    (IsTurnEnd (length c.args.winners.now) c.args.turn.now.den (option_map (block_of c.args.winners.now) o)))) (sym c.in-Some.is) at-den
