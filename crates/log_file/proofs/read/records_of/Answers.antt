use Rattle.std.proofs.Common.{Bor, List, ℕ, Some, ◌∙◌, inr}
use Rattle.csv.specs.Reading.{strip_bom}
use Rattle.log_file.proofs.RecordLaws.{left-start}
use Rattle.log_file.proofs.read.records_of.Goals as goal

pub returns : goal.returns
returns c =
    let fr = c.from_reader.ensures in
    let e = c.has_headers.ensures in
    let g = c.flexible.ensures in
    left-start (λ (s : Bor (List ℕ)). Some s.now) c.from_reader.result (strip_bom c.args.bytes.now) (rw (g, e) at fr.trim ∙ c.new.ensures.trim)
    (inr (inr (rw (g, e) at fr.has_headers, fr.headers))) (rw g at fr.flexible) (rw (g, e) at fr.config ∙ c.new.ensures.config) fr.source fr.state
