use Rattle.std.proofs.Common.{◌≡◌, ◌∙◌, ◌-◌, ◌*◌, ◌<◌, ◌≤◌, length, sym, subst}
use Rattle.std.proofs.lemmas.Bool.{false≢true}
use Rattle.auction_model.specs.Book.{Book}
use Rattle.table_check.specs.LineTests.{RulesAt}
use Rattle.cert_grammar.specs.Certificate.{part_of}
use Rattle.cert_soundness.specs.Tests.{bidders_of, states}
use Rattle.cert_stream.specs.declared.due.Table.TheVariants.{Part}
use Rattle.std.specs.Prelude.{IsTrue}
use Rattle.table_check.specs.Growth.{Grows}
use Rattle.cert_stream.specs.declared.due.NextLine.TheVariants.{Entries}
use Rattle.cert_stream.specs.Rooms.{room_size, segment}
use Rattle.stream_check.proofs.TableCome.{grown-next, known-before}
use Rattle.stream_check.specs.Rules.{HasTwoLines, IsFirstBetween, lines_tested}
use Rattle.stream_check.proofs.PartCome.{lines-two, lines-named, lines-inside, line-fails, rule-fails, line-decides, some-fault, none-fault}
use Rattle.stream_check.proofs.judging.parts.part_rules.Goals as goal

pub returns-then-is_some : goal.returns-then-is_some
returns-then-is_some c = λ cert next is follows. (
  let at = c.args.at.now in
      let (p, p_is) = some-fault c.rules_found-found.result.fault (sym c.is_some.ensures ∙ c.if-is_some.true) in
      let f = c.rules_found-found.ensures.fault (part_of cert.withouts c.args.j).table (subst (λ (b : Book). HasTwoLines b (Part c.args.j) c.args.k c.args.at.now.room.now
      (part_of cert.withouts c.args.j).table) (sym c.requires.offers.book) (lines-two c.args.at.now cert is c.args.j c.args.k c.requires.due)) in
      let (g, some_is, test_is, place_is) = c.part_found.ensures.fails (λ t. absurd (false≢true t)) in
      line-fails c.args.at.now cert is c.args.j c.args.k c.requires.due next c.part_found.result.failed c.part_found.result.late g some_is test_is place_is
      (rule-fails c.args.at.now cert is c.args.j c.args.k c.requires.due c.args.offers.now c.requires.offers.book c.requires.offers.skip_is
      c.requires.offers.net p (subst (IsFirstBetween (RulesAt c.args.offers.now (part_of cert.withouts c.args.j).table)
      ((c.args.k - 1) * states c.args.offers.now.book.now) (lines_tested (bidders_of c.args.offers.now.book.now) c.args.k * states
      c.args.offers.now.book.now)) p_is f)),
  λ seen. absurd (false≢true (sym c.part_found.ensures.grows ∙ seen)),
)

pub returns : goal.returns
returns c = λ cert next is follows. (
  let at = c.args.at.now in
      let none = none-fault c.rules_found-found.result.fault (sym c.is_some.ensures ∙ c.if-is_some.false) in
      let f = c.rules_found-found.ensures.fault (part_of cert.withouts c.args.j).table (subst (λ (b : Book). HasTwoLines b (Part c.args.j) c.args.k c.args.at.now.room.now
      (part_of cert.withouts c.args.j).table) (sym c.requires.offers.book) (lines-two c.args.at.now cert is c.args.j c.args.k c.requires.due)) in
      line-decides c.args.at.now cert is c.args.j c.args.k c.requires.due c.args.offers.now c.requires.offers.book c.requires.offers.skip_is
      c.requires.offers.net next c.part_found-2.result.failed c.part_found-2.result.late c.keeps_top.result follows
      (c.keeps_top.ensures cert is) c.part_found-2.ensures.holds c.part_found-2.ensures.fails
      (subst (IsFirstBetween (RulesAt c.args.offers.now (part_of cert.withouts c.args.j).table) ((c.args.k - 1) * states c.args.offers.now.book.now)
      (lines_tested (bidders_of c.args.offers.now.book.now) c.args.k * states c.args.offers.now.book.now)) none f),
  grown-next c.args.at.now cert is (Part c.args.j) c.args.k c.requires.due next c.part_found-2.result.grows follows
      (λ seen. subst (λ (b : Book). Grows b.supply (segment (bidders_of b) (states b) (Entries (Part c.args.j) c.args.k) c.args.at.now.room.now))
      c.requires.offers.book (c.rules_found-found.ensures.grows (subst IsTrue c.part_found-2.ensures.grows seen))),
)

pub rules_found-found-requires-clause-table : goal.rules_found-found-requires-clause-table
rules_found-found-requires-clause-table c = subst (λ (b : Book). (0 < c.args.j) × (c.args.j ≤ bidders_of b)) (sym c.requires.offers.book)
    (lines-named c.args.at.now c.requires.some.0 c.requires.some.1 c.args.j c.args.k c.requires.due)

pub rules_found-found-requires-clause-line : goal.rules_found-found-requires-clause-line
rules_found-found-requires-clause-line c = subst (λ (b : Book). c.args.k ≤ bidders_of b) (sym c.requires.offers.book)
    (lines-inside c.args.at.now c.requires.some.0 c.requires.some.1 c.args.j c.args.k c.requires.due)

pub rules_found-found-requires-clause-room : goal.rules_found-found-requires-clause-room
rules_found-found-requires-clause-room c = subst (λ (b : Book). length c.args.at.now.room.now ≡ room_size (bidders_of b) (states b))
    (sym c.requires.offers.book) c.args.at.now.sized

pub rules_found-found-requires-clause-lines : goal.rules_found-found-requires-clause-lines
rules_found-found-requires-clause-lines c = (
  (part_of c.requires.some.0.withouts c.args.j).table,
  subst (λ (b : Book). HasTwoLines b (Part c.args.j) c.args.k c.args.at.now.room.now ((part_of c.requires.some.0.withouts c.args.j).table))
      (sym c.requires.offers.book) (lines-two c.args.at.now c.requires.some.0 c.requires.some.1 c.args.j c.args.k c.requires.due),
)

pub rules_found-found-requires-clause-known : goal.rules_found-found-requires-clause-known
rules_found-found-requires-clause-known c =
    subst (λ (b : Book). 0 < c.args.k → IsTrue c.args.at.now.grows
    → Grows b.supply (segment (bidders_of b) (states b) (Entries (Part c.args.j) (c.args.k - 1)) c.args.at.now.room.now)) (sym c.requires.offers.book)
    (known-before c.args.at.now c.requires.some.0 c.requires.some.1 (Part c.args.j) c.args.k c.requires.due)
