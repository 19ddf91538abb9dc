use Rattle.std.proofs.Common.{◌∙◌, ◌∷◌, [], ◌++◌, List, ℕ, ap, codes, length}
use Rattle.cert_grammar.specs.CertText.{line}
use Rattle.cert_grammar.specs.Lines.{version_lines}
use Rattle.choices.specs.Lines.{width_of}
use Rattle.cert_text.specs.Written.{bytes_of, lines_of_head, AddsLines}
use Rattle.cert_text.proofs.Written.{adds_both}
use Rattle.cert_output.proofs.from_cert.opening_text.Goals as goal

pub returns : goal.returns
returns c =
    let cert = c.args.cert.now in
    let version = version_lines (length cert.choice) (width_of cert.table) in
    let head = lines_of_head cert in
    let word = line (codes "table") [] ∷ [] in
    let first : AddsLines [] c.add_version.new.text version =
    c.in_ok-add_version.ensures
    ∙ ap (λ (t : List ℕ). t ++ bytes_of (version_lines (length c.numbers.result.now) c.width.result)) c.new-text.ensures
    ∙ ap (λ (l : List ℕ). bytes_of (version_lines (length l) c.width.result)) c.numbers.ensures
    ∙ ap (λ (n : ℕ). bytes_of (version_lines (length cert.choice) n)) c.width.ensures in
    adds_both [] c.add_version.new.text c.add_signed_line.new.text version (head ++ word) first
    (adds_both c.add_version.new.text c.add_head.new.text c.add_signed_line.new.text head word c.in_ok-add_head.ensures c.in_ok-add_signed_line.ensures)
