use Rattle.std.proofs.Common.{◌≡◌, ◌∙◌, ◌+◌, ◌-◌, ◌*◌, ◌<◌, suc, Some, arith, ap, subst, sym, ℕ, List, length, [], pos}
use Rattle.std.specs.Prelude.{ℤ, slice_index_or, unsigned_abs, ◌^◌}
use Rattle.auction_model.specs.Place.{states_of}
use Rattle.cert_soundness.specs.Tests.{bidders_of, states}
use Rattle.table_check.specs.Growth.{Grows}
use Rattle.table_check.specs.LineTests.{RulesAt}
use Rattle.cert_check.proofs.PartLines.{fault-rules}
use Rattle.table_check.proofs.TableLines.{table-small, table-width}
use Rattle.stream_check.specs.Rules.{IsFirstBetween}
use Rattle.stream_check.proofs.RuleLaws.{line-between, none-before}
use Rattle.stream_check.proofs.judging.rules.before_found.Goals as goal

pub returns-then-k-eq0-clause-fault : goal.returns-then-k-eq0-clause-fault
returns-then-k-eq0-clause-fault c = λ t has. none-before (RulesAt c.args.offers.now t) c.args.k (states c.args.offers.now.book.now) c.if-k-eq0.true

pub returns-clause-fault : goal.returns-clause-fault
returns-clause-fault c = λ t has.
    let o = c.args.offers.now in
    let b = bidders_of o.book.now in
    let s = states o.book.now in
    let k = c.args.k - 1 in
    let up : suc (c.args.k - 1) ≡ c.args.k = omega (arith, c.if-k-eq0.false) in
    let same : c.states.result ≡ states o.book.now = c.states.ensures.states ∙ ap states_of c.supply.ensures.supply in
    let line_is = sym (c.numbers_in-line.ensures ∙ has.line) in
    let before_is = sym (c.numbers_in-before.ensures ∙ has.before (omega (arith, c.if-k-eq0.false))) in
    let f = fault-rules o t (c.args.k - 1) c.two_lines_found-found.result.place (omega (arith, c.requires.line))
    (c.two_lines_found-found.ensures.place t has.whole before_is (ap (λ (n : ℕ). slice_index_or t n []) up ∙ line_is)) in
    subst (λ (n : ℕ). IsFirstBetween (RulesAt o t) ((c.args.k - 1) * states o.book.now) (n * states o.book.now) c.place_of.result) up
    (line-between (RulesAt o t) (c.args.k - 1) (states o.book.now) c.two_lines_found-found.result.place c.place_of.result f
    (λ low. c.place_of.ensures.fault (omega (arith, low, same)) ∙ ap (λ (n : ℕ). Some ((c.args.k - 1) * n + c.two_lines_found-found.result.place)) same)
    (λ past. c.place_of.ensures.none (omega (arith, past, same))))

pub two_lines_found-found-requires-clause-sizes : goal.two_lines_found-found-requires-clause-sizes
two_lines_found-found-requires-clause-sizes c = λ n.
    let o = c.args.offers.now in
    let has = c.requires.lines.1 in
    subst (λ (l : List ℤ). unsigned_abs (slice_index_or l n (pos 0)) < 2 ^ 120) (sym (c.numbers_in-line.ensures ∙ has.line))
    (table-small (bidders_of o.book.now) (states o.book.now) c.requires.lines.0 has.whole c.args.k n)

pub two_lines_found-found-requires-clause-line : goal.two_lines_found-found-requires-clause-line
two_lines_found-found-requires-clause-line c =
    let o = c.args.offers.now in
    let has = c.requires.lines.1 in
    ap (λ (l : List ℤ). length l) (c.numbers_in-before.ensures ∙ has.before (omega (arith, c.if-k-eq0.false)))
    ∙ table-width (bidders_of o.book.now) (states o.book.now) c.requires.lines.0 has.whole (c.args.k - 1) (omega (arith, c.requires.line))

pub two_lines_found-found-requires-clause-below : goal.two_lines_found-found-requires-clause-below
two_lines_found-found-requires-clause-below c =
    let o = c.args.offers.now in
    let has = c.requires.lines.1 in
    ap (λ (l : List ℤ). length l) (c.numbers_in-line.ensures ∙ has.line) ∙ table-width (bidders_of o.book.now)
    (states o.book.now) c.requires.lines.0 has.whole c.args.k c.requires.line

pub two_lines_found-found-requires-clause-known : goal.two_lines_found-found-requires-clause-known
two_lines_found-found-requires-clause-known c = λ seen.
    subst (Grows c.args.offers.now.book.now.supply) (sym c.numbers_in-before.ensures) (c.requires.known (omega (arith, c.if-k-eq0.false)) seen)

pub returns-clause-grows : goal.returns-clause-grows
returns-clause-grows c = λ seen. subst (Grows c.args.offers.now.book.now.supply) c.numbers_in-line.ensures (c.two_lines_found-found.ensures.grows seen)
