-- What the statuses say about the course of a run.
use Rattle.cca_cli.specs.declared.status.FileKind.TheVariants.{Award, Log, Book, Cert, Weights, Slots, Edits, Out}
use Rattle.cca_cli.specs.declared.status.Status.{Status}
use Rattle.cca_cli.specs.declared.status.Status.TheVariants.{Done, No, Words, Refused, ReadFault, WriteFault, Memory, Limit}

-- a status that no fault and no out of memory put in the place of another
abbrev pub IsDecided : Status → Type 0
IsDecided Done = Unit {0}
IsDecided (No kind test place) = Unit {0}
IsDecided Words = Unit {0}
IsDecided (Refused file place entry) = Unit {0}
IsDecided (ReadFault file) = ⊥
IsDecided (WriteFault file) = ⊥
IsDecided Memory = ⊥
IsDecided (Limit which count) = Unit {0}

-- a status that a fault of a file or out of memory put in the place of another; its line is printed
abbrev pub IsHindered : Status → Type 0
IsHindered Done = ⊥
IsHindered (No kind test place) = ⊥
IsHindered Words = ⊥
IsHindered (Refused file place entry) = ⊥
IsHindered (ReadFault file) = Unit {0}
IsHindered (WriteFault Award) = Unit {0}
IsHindered (WriteFault Log) = Unit {0}
IsHindered (WriteFault Book) = Unit {0}
IsHindered (WriteFault Cert) = Unit {0}
IsHindered (WriteFault Weights) = Unit {0}
IsHindered (WriteFault Slots) = Unit {0}
IsHindered (WriteFault Edits) = Unit {0}
IsHindered (WriteFault Out) = ⊥
IsHindered Memory = Unit {0}
IsHindered (Limit which count) = ⊥

-- a status after which all files are as they were
abbrev pub KeepsAll : Status → Type 0
KeepsAll Done = ⊥
KeepsAll (No kind test place) = Unit {0}
KeepsAll Words = Unit {0}
KeepsAll (Refused file place entry) = Unit {0}
KeepsAll (ReadFault file) = Unit {0}
KeepsAll (WriteFault file) = ⊥
KeepsAll Memory = Unit {0}
KeepsAll (Limit which count) = Unit {0}
