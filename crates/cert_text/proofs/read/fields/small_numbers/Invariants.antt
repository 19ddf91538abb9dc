use Rattle.std.proofs.Common.{take}
use Rattle.cert_text.specs.Readers.{AreSmall}
use Rattle.cert_text.proofs.read.fields.small_numbers.Given as goal

abbrev pub invariant-loop-item : goal.invariant-loop-item
invariant-loop-item l = AreSmall (take l.item-index l.items) l.numbers
