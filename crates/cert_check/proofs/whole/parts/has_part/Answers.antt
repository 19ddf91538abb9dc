use Rattle.std.proofs.Common.{sym, subst}
use Rattle.std.specs.Prelude.{IsTrue, ◌↔◌, refl}
use Rattle.cert_grammar.specs.Certificate.{WithoutValue}
use Rattle.cert_soundness.specs.Tests.{IsPart, bidders_of, states}
use Rattle.cert_check.proofs.PartLaws.{HasForm, part-form, from-found}
use Rattle.cert_check.proofs.whole.parts.has_part.Goals as goal
use Rattle.cert_check.proofs.whole.parts.has_part.Goals.{Then-part-j}

form : (c : Then-part-j) → HasForm (bidders_of c.args.book.now) (states c.args.book.now) c.part-item.result
form c =
    let b = bidders_of c.args.book.now in
    let s = states c.args.book.now in
    part-form b s 1 c.requires.parts.0 c.args.parts.now c.args.parts.now c.loop-part.part-index c.part-item.result refl c.requires.parts.1
    c.loop-part-test.true c.part-item.is

pub shows_best-requires-clause-choice : goal.shows_best-requires-clause-choice
shows_best-requires-clause-choice c = (form c).choice

pub shows_best-requires-clause-table : goal.shows_best-requires-clause-table
shows_best-requires-clause-table c = (form c).table

pub returns-then-part-j : goal.returns-then-part-j
returns-then-part-j c =
    let found = from-found c.args.parts.now c.loop-part.part-index c.args.j c.part-item.result c.loop-part-test.true c.part-item.is c.loop-part.invariant
    c.if-part-j.true in
    subst (λ (w : WithoutValue). IsTrue c.shows_best.result ↔ IsPart c.args.book.now c.args.j w) (sym found) c.shows_best.ensures
