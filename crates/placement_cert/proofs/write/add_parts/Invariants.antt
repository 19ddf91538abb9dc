use Rattle.std.proofs.Common.{◌≡◌, ◌++◌, drop}
use Rattle.cert_text.specs.Written.{bytes_of}
use Rattle.placement_cert.specs.PlaceReads.{part_lines}
use Rattle.placement_cert.proofs.write.add_parts.Given as goal

abbrev pub invariant-loop-part : goal.invariant-loop-part
invariant-loop-part l = l.text ++ bytes_of (part_lines (drop l.part-index l.parts)) ≡ l.initial.text ++ bytes_of (part_lines l.parts)
