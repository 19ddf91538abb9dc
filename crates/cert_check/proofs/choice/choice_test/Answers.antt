use Rattle.std.proofs.Common.{◌≡◌, true, pos, [], Some, None, sym, ◌∙◌, to_z, of_z, arith, rules}
use Rattle.std.proofs.lemmas.Int.{to_z-of_z}
use mir.Val.{SFits}
use mir.Syntax.{w128}
use Rattle.cert_soundness.specs.Tests.{C2}
use Rattle.cert_check.specs.Fields.{cert_of}
use Rattle.cert_check.proofs.FieldLaws.{choice-of}
use Rattle.cert_check.proofs.PlaceTests.{before-next, fails-here, holds-everywhere}
use Rattle.cert_check.proofs.PlaceLaws.{past-C2}
use Rattle.cert_check.proofs.choice.choice_test.Goals as goal

pub loop-place-preserved : goal.loop-place-preserved
loop-place-preserved c =
    let passed : c.choice_holds.result ≡ true = search rules in
    before-next (C2 c.args.book.now (cert_of (pos 0) (to_z w128 (of_z w128 c.args.claimed)) c.args.choice.now [] [] [])) c.loop-place.place
    c.choice_holds.result c.loop-place.invariant c.choice_holds.ensures passed

pub returns-then-not-choice_holds : goal.returns-then-not-choice_holds
returns-then-not-choice_holds c = λ cert choice_is value_is.
    let claimed_fits : SFits w128 c.args.claimed = search rules in
    choice-of c.args.book.now cert (to_z w128 (of_z w128 c.args.claimed)) c.args.choice.now (Some c.loop-place.place) choice_is
    (value_is ∙ sym (to_z-of_z w128 c.args.claimed claimed_fits))
    (fails-here (C2 c.args.book.now (cert_of (pos 0) (to_z w128 (of_z w128 c.args.claimed)) c.args.choice.now [] [] [])) c.loop-place.place
    c.choice_holds.result c.loop-place.invariant c.choice_holds.ensures c.if-not-choice_holds.true)

pub returns : goal.returns
returns c = λ cert choice_is value_is.
    let claimed_fits : SFits w128 c.args.claimed = search rules in
    choice-of c.args.book.now cert (to_z w128 (of_z w128 c.args.claimed)) c.args.choice.now None choice_is
    (value_is ∙ sym (to_z-of_z w128 c.args.claimed claimed_fits))
    (holds-everywhere (C2 c.args.book.now (cert_of (pos 0) (to_z w128 (of_z w128 c.args.claimed)) c.args.choice.now [] [] [])) c.loop-place.place
    c.loop-place.invariant
    (λ place past. past-C2 c.args.book.now (cert_of (pos 0) (to_z w128 (of_z w128 c.args.claimed)) c.args.choice.now [] [] []) place
    (omega (arith, c.bidders.ensures.bidders))))
