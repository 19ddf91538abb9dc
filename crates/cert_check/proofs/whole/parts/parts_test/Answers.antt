use Rattle.std.proofs.Common.{[], map, ◌∙◌, ◌+◌, Some, None, sym, arith}
use Rattle.std.proofs.lemmas.Bool.{iff_false}
use Rattle.std.specs.Prelude.{IsTrue}
use Rattle.auction_model.specs.Market.{uses}
use Rattle.cert_grammar.specs.Certificate.{part_of}
use Rattle.cert_soundness.specs.Tests.{IsPart}
use Rattle.cert_text.specs.Parts.{without_value}
use Rattle.cert_check.specs.Fields.{cert_with}
use Rattle.cert_check.proofs.FieldLaws.{parts-of}
use Rattle.cert_check.proofs.PartLaws.{parts-start, parts-next, parts-all, parts-fail, loses-zero, wins-some}
use Rattle.cert_check.proofs.whole.parts.parts_test.Goals as goal
use Rattle.cert_check.proofs.whole.parts.parts_test.Goals.{else-number-ne0-via-then-number-ne0+else-not-has_part, else-number-ne0-via-else-number-ne0}

pub loop-k-init : goal.loop-k-init
loop-k-init c = parts-start c.args.claim.now.book.now (cert_with c.args.claim.now (map without_value c.args.parts.now) [] [])

pub loop-k-preserved : goal.loop-k-preserved
loop-k-preserved c =
    let a = c.args.claim.now in
    let cert = cert_with a (map without_value c.args.parts.now) [] [] in
    let own : IsTrue (uses a.choice.now (c.loop-k.k + 1)) → IsPart a.book.now (c.loop-k.k + 1) (part_of (map without_value c.args.parts.now) (c.loop-k.k + 1)) =
    elim c.else-number-ne0.branch [
      | else-number-ne0-via-then-number-ne0+else-not-has_part w ↦ λ _. w.has_part.ensures.0 w.if-not-has_part.false
      | else-number-ne0-via-else-number-ne0 w ↦ λ wins. absurd (loses-zero a.choice.now (c.loop-k.k + 1) (sym c.number.ensures ∙ w.if-number-ne0.false) wins)
    ] in
    parts-next a.book.now cert c.loop-k.k c.loop-k.invariant own

pub returns-then-not-has_part : goal.returns-then-not-has_part
returns-then-not-has_part c = λ cert choice_is withouts_is.
    let a = c.args.claim.now in
    parts-of a cert (map without_value c.args.parts.now) (Some (c.loop-k.k + 1)) choice_is withouts_is
    (parts-fail a.book.now (cert_with a (map without_value c.args.parts.now) [] []) c.loop-k.k
    (omega (arith, c.loop-k-test.true, c.bidders-k-end.ensures.bidders)) c.loop-k.invariant
    (wins-some a.choice.now (c.loop-k.k + 1) c.number.result c.number.ensures c.if-number-ne0.true) (iff_false c.has_part.ensures c.if-not-has_part.true))

pub returns : goal.returns
returns c = λ cert choice_is withouts_is.
    let a = c.args.claim.now in
    parts-of a cert (map without_value c.args.parts.now) None choice_is withouts_is
    (parts-all a.book.now (cert_with a (map without_value c.args.parts.now) [] []) c.loop-k.k
    (omega (arith, c.loop-k-test.false, c.bidders-k-end.ensures.bidders)) c.loop-k.invariant)
