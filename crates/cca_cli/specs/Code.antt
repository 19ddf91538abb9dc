-- The exit status that stands for each status.
use Rattle.std.specs.Prelude.{ℕ}
use Rattle.cca_cli.specs.declared.status.Status.{Status}
use Rattle.cca_cli.specs.declared.status.Status.TheVariants.{Done, No, Words, Refused, ReadFault, WriteFault, Memory, Limit}

abbrev pub code_of : Status → ℕ
code_of Done = 0
code_of (No kind test place) = 1
code_of Words = 2
code_of (Refused file place entry) = 3
code_of (ReadFault file) = 4
code_of (WriteFault file) = 5
code_of Memory = 6
code_of (Limit which count) = 7
