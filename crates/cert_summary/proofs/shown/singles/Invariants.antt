use Rattle.std.proofs.Common.{◌≡◌, take, map}
use Rattle.cert_text.specs.CertValues.{cert_value}
use Rattle.cert_text.specs.Parts.{without_value}
use Rattle.cert_summary.specs.Facts.{single_of}
use Rattle.cert_summary.proofs.shown.singles.Given as goal

abbrev pub invariant-loop-part : goal.invariant-loop-part
invariant-loop-part l = l.singles ≡ map (single_of l.book (cert_value l.cert)) (map without_value (take l.part-index l.cert.withouts))
