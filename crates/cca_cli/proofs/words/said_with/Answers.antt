use Rattle.std.proofs.Common.{◌∙◌, ◌≤◌, length, string_bytes, ap, rules}
use Rattle.std.proofs.lemmas.Option.{IfSome_then}
use Rattle.cca_cli.specs.Words.{command_value}
use Rattle.cca_cli.proofs.Names.{among-front}
use Rattle.cca_cli.proofs.Parted.{said-slices}
use Rattle.cca_cli.proofs.words.said_with.Goals as goal

pub returns-clause-among : goal.returns-clause-among
returns-clause-among c = IfSome_then c.said_after.result c.said_after.ensures.among (λ k among. among-front string_bytes (length c.row.result.files.now)
    c.args.words.now (command_value k) among)

pub returns-clause-command : goal.returns-clause-command
returns-clause-command c =
    let within : length c.row.result.files.now ≤ length c.args.words.now = search rules in
    c.said_after.ensures.command ∙ said-slices string_bytes c.args.kind c.args.number c.args.words.now (length c.row.result.files.now)
    (ap length c.row.ensures.files) within
