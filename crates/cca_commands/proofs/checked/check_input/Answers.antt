use Rattle.cca_cli.proofs.ReadStops.{loads-none}
use Rattle.cca_commands.proofs.checked.check_input.Goals as goal

pub returns-in_err-numbers-clause-loads : goal.returns-in_err-numbers-clause-loads
returns-in_err-numbers-clause-loads g c = loads-none _ _

pub returns-in_err-bytes-clause-loads : goal.returns-in_err-bytes-clause-loads
returns-in_err-bytes-clause-loads g c = loads-none _ _
