use Rattle.std.proofs.Common.{◌∙◌}
use Rattle.award_file.proofs.read.make_award.Goals as goal

pub from_parts-requires : goal.from_parts-requires
from_parts-requires c = c.in_ok-made.ensures.ok.1

pub returns-clause-ok : goal.returns-clause-ok
returns-clause-ok c = (c.in_ok-made.ensures.ok.0, c.from_parts.ensures ∙ c.in_ok-made.ensures.ok.2)
