use Rattle.cca_run.proofs.top.run.Goals as goal

pub returns-clause-front : goal.returns-clause-front
returns-clause-front g c = c.ran.ensures.front

pub returns-clause-roomy : goal.returns-clause-roomy
returns-clause-roomy g c = c.ran.ensures.roomy

pub returns-clause-read_fault : goal.returns-clause-read_fault
returns-clause-read_fault g c = c.ran.ensures.read_fault

pub returns-clause-audit : goal.returns-clause-audit
returns-clause-audit g c = c.ran.ensures.audit

pub returns-clause-award : goal.returns-clause-award
returns-clause-award g c = c.ran.ensures.award

pub returns-clause-complete : goal.returns-clause-complete
returns-clause-complete g c = c.ran.ensures.complete

pub returns-clause-awarded : goal.returns-clause-awarded
returns-clause-awarded g c = c.ran.ensures.awarded

pub returns-clause-accepted : goal.returns-clause-accepted
returns-clause-accepted g c = c.ran.ensures.accepted

pub returns-clause-handed_on : goal.returns-clause-handed_on
returns-clause-handed_on g c = c.ran.ensures.handed_on

pub returns-clause-answer : goal.returns-clause-answer
returns-clause-answer g c = c.ran.ensures.answer

pub returns-clause-hands_on : goal.returns-clause-hands_on
returns-clause-hands_on g c = c.ran.ensures.hands_on

pub returns-clause-given : goal.returns-clause-given
returns-clause-given g c = c.ran.ensures.given

pub returns-clause-every_log : goal.returns-clause-every_log
returns-clause-every_log g c = c.ran.ensures.every_log

pub returns-clause-loaded : goal.returns-clause-loaded
returns-clause-loaded g c = c.ran.ensures.loaded

pub returns-clause-seen : goal.returns-clause-seen
returns-clause-seen g c = c.ran.ensures.seen

pub returns-clause-checked : goal.returns-clause-checked
returns-clause-checked g c = c.ran.ensures.checked

pub returns-clause-check_seen : goal.returns-clause-check_seen
returns-clause-check_seen g c = c.ran.ensures.check_seen

pub returns-clause-weigh_checked : goal.returns-clause-weigh_checked
returns-clause-weigh_checked g c = c.ran.ensures.weigh_checked

pub returns-clause-weigh_check_seen : goal.returns-clause-weigh_check_seen
returns-clause-weigh_check_seen g c = c.ran.ensures.weigh_check_seen

pub returns-clause-place_checked : goal.returns-clause-place_checked
returns-clause-place_checked g c = c.ran.ensures.place_checked

pub returns-clause-place_check_seen : goal.returns-clause-place_check_seen
returns-clause-place_check_seen g c = c.ran.ensures.place_check_seen

pub returns-clause-priced : goal.returns-clause-priced
returns-clause-priced g c = c.ran.ensures.priced

pub returns-clause-weighed : goal.returns-clause-weighed
returns-clause-weighed g c = c.ran.ensures.weighed

pub returns-clause-placed : goal.returns-clause-placed
returns-clause-placed g c = c.ran.ensures.placed

pub returns-clause-reviewed : goal.returns-clause-reviewed
returns-clause-reviewed g c = c.ran.ensures.reviewed
