use Rattle.placement_check.proofs.FirstEntry.{whole-entry, without-entry}
use Rattle.placement_check.proofs.laws.first_entries.Goals as goal

pub returns-clause-whole : goal.returns-clause-whole
returns-clause-whole c = λ slots counts table exact. whole-entry slots counts table exact

pub returns-clause-without : goal.returns-clause-without
returns-clause-without c = λ slots j counts table some exact. without-entry slots j counts table some exact
