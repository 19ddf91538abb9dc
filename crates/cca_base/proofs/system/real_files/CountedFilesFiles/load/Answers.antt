use Rattle.std.proofs.Common.{ap, refl, arith}
use Rattle.std.proofs.lemmas.Grind.{common_steps}
use Rattle.cca_base.specs.Given.{bytes_under}
use Rattle.cca_base.proofs.Given.{keeps_given}
use Rattle.cca_base.proofs.system.real_files.CountedFilesFiles.load.Goals as goal

pub returns-in-Ok-clause-kept : goal.returns-in-Ok-clause-kept
returns-in-Ok-clause-kept g c = keeps_given _ _ _ refl refl refl refl (ap bytes_under c.read_at.ensures.took) c.in-Ok.ensures.gave (λ tells. cc)

pub returns-in-Err-clause-kept : goal.returns-in-Err-clause-kept
returns-in-Err-clause-kept g c = grind (arith, common_steps)

pub returns-in-Err-clause-count : goal.returns-in-Err-clause-count
returns-in-Err-clause-count g c = grind (arith, common_steps)

pub returns-in-Err-clause-appends : goal.returns-in-Err-clause-appends
returns-in-Err-clause-appends g c = grind (arith, common_steps)

pub returns-in-Err-clause-cause : goal.returns-in-Err-clause-cause
returns-in-Err-clause-cause g c = grind (arith, common_steps)

pub returns-in-Err-clause-counted : goal.returns-in-Err-clause-counted
returns-in-Err-clause-counted g c = grind (arith, common_steps)
