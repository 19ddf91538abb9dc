use Rattle.std.proofs.Common.{[], drop}
use Rattle.cert_output.specs.TextParts.{all_bytes}
use Rattle.cert_output.proofs.Waiting.{IsSoFar}
use Rattle.cert_output.proofs.write.add_parts.Given as goal

abbrev pub invariant-loop-part : goal.invariant-loop-part
invariant-loop-part g l = IsSoFar l.name (g.F.Files.folder l.initial.files) (g.F.Files.folder l.files) [] l.room l.waiting
    (all_bytes (drop l.part-index l.parts)) (all_bytes l.parts)
