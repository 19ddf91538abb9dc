use Rattle.std.proofs.Common.{rules}
use Rattle.std.proofs.lemmas.Int.{to_z-of_z}
use Rattle.cert_soundness.proofs.Winning.{allowed-length}
use Rattle.cert_check.proofs.EarlierLaws.{left-test}
use mir.Val.{SFits}
use mir.Syntax.{w128}
use Rattle.cert_check.proofs.tables.earlier.none_earlier.Goals as goal

pub returns : goal.returns
returns c = λ cert choice_is value_is line_is.
    let value_fits : SFits w128 c.args.value = search rules in
    let bound_fits : SFits w128 c.left_before-left.result.bound = search rules in
    left-test c.args.book.now c.args.choice.now c.args.value c.args.j c.left_before-left.result.rest c.left_before-left.result.bound cert c.args.line.now
    c.all_stay_below.result
    (allowed-length c.args.book.now c.args.choice.now c.requires.allowed) c.requires.bidder.0 c.requires.bidder.1
    (rw (to_z-of_z w128 c.args.value value_fits) at c.left_before-left.ensures) choice_is value_is line_is (simp to_z-of_z at c.all_stay_below.ensures)

pub all_stay_below-requires-clause-choice : goal.all_stay_below-requires-clause-choice
all_stay_below-requires-clause-choice c = allowed-length c.args.book.now c.args.choice.now c.requires.allowed
