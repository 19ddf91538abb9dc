use Rattle.std.proofs.Common.{arith}
use Rattle.std.proofs.lemmas.Grind.{common_steps}
use Rattle.cca_base.proofs.system.real_files.CountedFilesFiles.append.Goals as goal

pub returns-then-is_err-clause-kept : goal.returns-then-is_err-clause-kept
returns-then-is_err-clause-kept g c = grind (arith, common_steps)

pub returns-then-is_err-clause-count : goal.returns-then-is_err-clause-count
returns-then-is_err-clause-count g c = grind (arith, common_steps)

pub returns-then-is_err-clause-loads : goal.returns-then-is_err-clause-loads
returns-then-is_err-clause-loads g c = grind (arith, common_steps)

pub returns-then-is_err-clause-cause : goal.returns-then-is_err-clause-cause
returns-then-is_err-clause-cause g c = grind (arith, common_steps)

pub returns-then-is_err-clause-counted : goal.returns-then-is_err-clause-counted
returns-then-is_err-clause-counted g c = grind (arith, common_steps)
