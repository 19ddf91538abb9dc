use Rattle.std.proofs.Common.{◌≡◌, ◌<◌, ◌≤◌, ◌∙◌, ℕ, ℤ, subst, to_z, of_z, arith, rules}
use Rattle.std.proofs.lemmas.Int.{to_z-of_z}
use Rattle.auction_model.specs.Lowered.{of_bidder}
use Rattle.cert_soundness.specs.Tests.{bidders_of}
use Rattle.cert_check.specs.Gains.{gain_of}
use Rattle.cert_check.proofs.Written.{written-more, written-all}
use mir.Val.{SFits}
use mir.Syntax.{w128}
use Rattle.cert_check.proofs.tables.gains.put_each.Goals as goal

pub loop-k-preserved : goal.loop-k-preserved
loop-k-preserved c =
    let gain_fits : SFits w128 c.gain.result = search rules in
    written-more (gain_of c.args.book.now (to_z w128 (of_z w128 c.args.den)) c.args.choice.now c.args.pay.now) c.loop-k.gains c.loop-k.k _
    (omega arith) c.loop-k.invariant (to_z-of_z w128 c.gain.result gain_fits ∙ c.gain.ensures)

pub returns-clause-gains : goal.returns-clause-gains
returns-clause-gains c =
    let den_fits : SFits w128 c.args.den = search rules in
    subst (λ (z : ℤ). (j : ℕ) → 0 < j → j ≤ bidders_of c.args.book.now → of_bidder c.loop-k.gains j ≡ gain_of c.args.book.now z c.args.choice.now
    c.args.pay.now j) (to_z-of_z w128 c.args.den den_fits)
    (written-all (gain_of c.args.book.now (to_z w128 (of_z w128 c.args.den)) c.args.choice.now c.args.pay.now) c.loop-k.gains c.loop-k.k
    (bidders_of c.args.book.now) (omega arith) c.loop-k.invariant)
