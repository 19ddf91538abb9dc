use Rattle.stream_check.proofs.NextLaws.{plain-else}
use Rattle.stream_check.proofs.judging.judged.Goals as goal

pub no_finding-requires : goal.no_finding-requires
no_finding-requires c = plain-else c.args.at.now.due c.in_default.not-Value c.in_default.not-Choice c.in_default.not-Entries
    c.in_default.not-PartChoice c.in_default.not-Payments c.in_default.not-Rows c.in_default.not-RowChoice
