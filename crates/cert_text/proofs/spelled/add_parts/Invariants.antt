use Rattle.std.proofs.Common.{◌≡◌, ◌++◌, drop, map}
use Rattle.cert_grammar.specs.CertText.{part_lines}
use Rattle.cert_text.specs.Parts.{without_value}
use Rattle.cert_text.specs.Written.{bytes_of}
use Rattle.cert_text.proofs.spelled.add_parts.Given as goal

abbrev pub invariant-loop-part : goal.invariant-loop-part
invariant-loop-part l = l.text ++ bytes_of (part_lines (map without_value (drop l.part-index l.parts))) ≡ l.initial.text
    ++ bytes_of (part_lines (map without_value l.parts))
