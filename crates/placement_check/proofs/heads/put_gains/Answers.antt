use Rattle.std.proofs.Common.{◌∙◌, length, arith, rules}
use Rattle.std.proofs.lemmas.Int.{to_z-of_z}
use Rattle.placement_cert.specs.CertValues.{place_cert_value}
use Rattle.cert_check.proofs.Written.{written-more, written-all}
use Rattle.placement_check.specs.Shown.{gain_in}
use mir.Val.{SFits}
use mir.Syntax.{w128}
use Rattle.placement_check.proofs.heads.put_gains.Goals as goal

pub loop-k-preserved : goal.loop-k-preserved
loop-k-preserved c =
    let gain_fits : SFits w128 c.gain.result = search rules in
    written-more (gain_in c.args.slots.now (place_cert_value c.args.cert.now)) c.loop-k.gains c.loop-k.k _ (omega arith) c.loop-k.invariant
    (to_z-of_z w128 c.gain.result gain_fits ∙ c.gain.ensures)

pub returns-clause-gains : goal.returns-clause-gains
returns-clause-gains c = written-all (gain_in c.args.slots.now (place_cert_value c.args.cert.now)) c.loop-k.gains c.loop-k.k (length c.args.slots.now.bidders)
    (omega arith) c.loop-k.invariant
