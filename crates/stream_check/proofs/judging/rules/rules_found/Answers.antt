use Rattle.std.proofs.Common.{◌-◌, ◌*◌, subst}
use Rattle.cert_soundness.specs.Tests.{bidders_of, states}
use Rattle.table_check.specs.LineTests.{RulesAt}
use Rattle.stream_check.specs.Rules.{IsFirstBetween, lines_tested}
use Rattle.stream_check.proofs.RuleLaws.{between-first, between-both, lines-rise}
use Rattle.stream_check.proofs.judging.rules.rules_found.Goals as goal

pub returns-in-Some-clause-fault : goal.returns-in-Some-clause-fault
returns-in-Some-clause-fault c = λ t has.
    let o = c.args.offers.now in
    let b = bidders_of o.book.now in
    let s = states o.book.now in
    let up = lines-rise (bidders_of o.book.now) c.args.k (states o.book.now) c.requires.line in
    between-first (RulesAt o t) ((c.args.k - 1) * states o.book.now) (c.args.k * states o.book.now)
    (lines_tested (bidders_of o.book.now) c.args.k * states o.book.now) c.in-Some.place up.1
    (subst (IsFirstBetween (RulesAt o t) ((c.args.k - 1) * states o.book.now) (c.args.k * states o.book.now)) c.in-Some.is (c.before_found-before.ensures.fault t has))

pub returns-in-None-clause-fault : goal.returns-in-None-clause-fault
returns-in-None-clause-fault c = λ t has.
    let o = c.args.offers.now in
    let up = lines-rise (bidders_of o.book.now) c.args.k (states o.book.now) c.requires.line in
    between-both (RulesAt o t) ((c.args.k - 1) * states o.book.now) (c.args.k * states o.book.now)
    (lines_tested (bidders_of o.book.now) c.args.k * states o.book.now) c.last_line_place.result up.0 up.1
    (subst (IsFirstBetween (RulesAt o t) ((c.args.k - 1) * states o.book.now) (c.args.k * states o.book.now)) c.in-None.is (c.before_found-before.ensures.fault t has))
    (c.last_line_place.ensures t has)
