use Rattle.log_file.proofs.OneEvent.{one_event}
use Rattle.log_file.proofs.OneReading.{one_log, one_fault, log_or_fault, log_or_many, fault_or_many}
use Rattle.log_file.proofs.laws.one_reading.Goals as goal

pub returns-clause-event : goal.returns-clause-event
returns-clause-event c = one_event

pub returns-clause-log : goal.returns-clause-log
returns-clause-log c = one_log

pub returns-clause-fault : goal.returns-clause-fault
returns-clause-fault c = one_fault

pub returns-clause-no_fault : goal.returns-clause-no_fault
returns-clause-no_fault c = log_or_fault

pub returns-clause-not_many : goal.returns-clause-not_many
returns-clause-not_many c = log_or_many

pub returns-clause-few_before : goal.returns-clause-few_before
returns-clause-few_before c = fault_or_many
