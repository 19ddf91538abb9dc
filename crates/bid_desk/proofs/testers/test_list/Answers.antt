-- The tester is taken out of its place, and put back.
use Rattle.std.proofs.Common.{◌∙◌}
use Rattle.bid_desk.proofs.TesterLaws.{tester-taken, testers-back}
use Rattle.bid_desk.proofs.testers.test_list.Goals as goal

pub list_fault-fault-requires-clause-tester : goal.list_fault-fault-requires-clause-tester
list_fault-fault-requires-clause-tester c =
    tester-taken c.args.history.now c.args.points.now c.args.j c.args.testers.now.items c.take-kept.result _ c.in_ok-tester.tester c.requires.bidder.first
    c.requires.place c.requires.testers
    (c.take-kept.ensures.value ∙ c.index_mut.ensures.value) c.in_ok-tester.ensures

pub returns-clause-testers : goal.returns-clause-testers
returns-clause-testers c =
    testers-back c.args.history.now c.args.points.now c.args.j c.args.testers.now.items c.take-kept.new.self c.list_fault-fault.new.self
    c.requires.bidder.first c.requires.place
    c.take-kept.ensures.after c.requires.testers c.list_fault-fault.ensures.tester
