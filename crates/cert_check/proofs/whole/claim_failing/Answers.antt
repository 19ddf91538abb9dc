use Rattle.std.proofs.Common.{sym, arith, rules}
use Rattle.std.proofs.lemmas.Int.{to_z-of_z}
use mir.Val.{SFits}
use mir.Syntax.{w128}
use Rattle.auction_model.specs.Prices.{weight_of}
use Rattle.cert_text.specs.CertValues.{cert_value}
use Rattle.cert_check.proofs.HeadLaws.{head-shown}
use Rattle.cert_check.proofs.VerdictLaws.{held-head}
use Rattle.cert_check.proofs.whole.claim_failing.Goals as goal

pub invariant_of-claim : goal.invariant_of-claim
invariant_of-claim c =
    let book = c.args.book.now in
    let cert = cert_value c.args.cert.now in
    let den_fits : SFits w128 c.args.cert.now.den = search rules in
    let value_fits : SFits w128 c.args.cert.now.value = search rules in
    record {
      shown = rw (to_z-of_z w128 c.args.cert.now.den den_fits, to_z-of_z w128 c.args.cert.now.value value_fits, c.numbers.ensures)
          (head-shown book cert c.kept.ensures c.requires.shape.bidders_are (held-head book (weight_of c.args.weights.now) cert c.args.test c.requires.before
          (omega (arith, c.requires.test.0))));
    }

pub later_failing-requires-clause-claim : goal.later_failing-requires-clause-claim
later_failing-requires-clause-claim c =
    let den_fits : SFits w128 c.args.cert.now.den = search rules in
    let value_fits : SFits w128 c.args.cert.now.value = search rules in
    record {
      den_is = sym (to_z-of_z w128 c.args.cert.now.den den_fits);
      value_is = sym (to_z-of_z w128 c.args.cert.now.value value_fits);
      choice_is =
          sym c.numbers.ensures;
    }
