use Rattle.std.proofs.Common.{string_bytes}
use Rattle.std.proofs.lemmas.Option.{IfSome_then}
use Rattle.cca_cli.specs.Words.{command_value}
use Rattle.cca_cli.proofs.Names.{among-behind}
use Rattle.cca_cli.proofs.words.read_command.Goals as goal

pub returns-in-Some-clause-among : goal.returns-in-Some-clause-among
returns-in-Some-clause-among c = IfSome_then c.said_by.result c.said_by.ensures.among (λ k among. among-behind string_bytes c.args.words.now
    (command_value k) among)
