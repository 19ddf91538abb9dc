use Rattle.std.proofs.Common.{◌≡◌, ◌-◌, ◌*◌, ◌≤◌, length, sym, subst, arith}
use Rattle.auction_model.specs.Book.{Book}
use Rattle.auction_model.specs.Prices.{weight_of}
use Rattle.cert_soundness.specs.Tests.{bidders_of, states}
use Rattle.cert_check.specs.Partway.{IsJudged}
use Rattle.cert_stream.specs.declared.due.Table.TheVariants.{Lowered}
use Rattle.table_check.specs.Growth.{Grows}
use Rattle.cert_stream.specs.declared.due.NextLine.TheVariants.{Entries}
use Rattle.cert_stream.specs.Rooms.{room_size, segment}
use Rattle.std.specs.Prelude.{IsTrue, ◌<◌}
use Rattle.stream_check.specs.Rules.{HasTwoLines, lines_tested}
use Rattle.stream_check.proofs.RuleLaws.{between-judged, lines-rise}
use Rattle.stream_check.proofs.TableCome.{known-before, line-inside, lowered-two, lowered-holds, lowered-rules}
use Rattle.stream_check.proofs.judging.claims.lowered_rules.Goals as goal

pub returns-clause-failed : goal.returns-clause-failed
returns-clause-failed c = λ cert is.
    let at = c.args.at.now in
    let inside = line-inside c.args.at.now cert is Lowered c.args.k c.requires.due in
    let rise = lines-rise (bidders_of at.book.now) c.args.k (states at.book.now) inside in
    let two = subst (λ (b : Book). HasTwoLines b Lowered c.args.k c.args.at.now.room.now cert.lowered) (sym c.requires.offers.book)
    (lowered-two c.args.at.now cert is c.args.k c.requires.due) in
    let rules = lowered-rules c.args.at.now cert is c.args.k c.requires.due c.args.offers.now c.rules_found-found.result.fault c.requires.offers.book
    c.requires.offers.nobody (c.requires.offers.net cert is) (c.rules_found-found.ensures.fault cert.lowered two) in
    subst (IsJudged at.book.now (weight_of at.weights.now) cert 9 (lines_tested (bidders_of at.book.now) c.args.k * states at.book.now))
    (sym c.failure_of.ensures.failure)
    (between-judged at.book.now (weight_of at.weights.now) cert 9 ((c.args.k - 1) * states at.book.now)
    (lines_tested (bidders_of at.book.now) c.args.k * states at.book.now) c.rules_found-found.result.fault (omega (arith, rise.0, rise.1))
    (lowered-holds c.args.at.now cert is c.args.k c.requires.due) rules)

pub rules_found-found-requires-clause-line : goal.rules_found-found-requires-clause-line
rules_found-found-requires-clause-line c = subst (λ (b : Book). c.args.k ≤ bidders_of b) (sym c.requires.offers.book)
    (line-inside c.args.at.now c.requires.some.0 c.requires.some.1 Lowered c.args.k c.requires.due)

pub rules_found-found-requires-clause-room : goal.rules_found-found-requires-clause-room
rules_found-found-requires-clause-room c = subst (λ (b : Book). length c.args.at.now.room.now ≡ room_size (bidders_of b) (states b))
    (sym c.requires.offers.book) c.args.at.now.sized

pub rules_found-found-requires-clause-lines : goal.rules_found-found-requires-clause-lines
rules_found-found-requires-clause-lines c = (
  c.requires.some.0.lowered,
  subst (λ (b : Book). HasTwoLines b Lowered c.args.k c.args.at.now.room.now
      (c.requires.some.0.lowered)) (sym c.requires.offers.book) (lowered-two c.args.at.now c.requires.some.0 c.requires.some.1 c.args.k c.requires.due),
)

pub rules_found-found-requires-clause-known : goal.rules_found-found-requires-clause-known
rules_found-found-requires-clause-known c =
    subst (λ (b : Book). 0 < c.args.k → IsTrue c.args.at.now.grows
    → Grows b.supply (segment (bidders_of b) (states b) (Entries Lowered (c.args.k - 1)) c.args.at.now.room.now)) (sym c.requires.offers.book)
    (known-before c.args.at.now c.requires.some.0 c.requires.some.1 Lowered c.args.k c.requires.due)

pub returns-clause-grows : goal.returns-clause-grows
returns-clause-grows c =
    subst (λ (b : Book). IsTrue c.rules_found-found.result.grows
    → Grows b.supply (segment (bidders_of b) (states b) (Entries Lowered c.args.k) c.args.at.now.room.now)) c.requires.offers.book
    c.rules_found-found.ensures.grows
