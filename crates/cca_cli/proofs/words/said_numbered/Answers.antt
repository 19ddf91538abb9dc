use Rattle.std.proofs.Common.{string_bytes}
use Rattle.std.proofs.lemmas.Option.{IfSome_then}
use Rattle.cca_cli.specs.Words.{command_value}
use Rattle.cca_cli.proofs.Names.{among-behind}
use Rattle.cca_cli.proofs.words.said_numbered.Goals as goal

pub returns-clause-among : goal.returns-clause-among
returns-clause-among c = IfSome_then c.said_with.result c.said_with.ensures.among (λ k among. among-behind string_bytes c.args.words.now
    (command_value k) among)
