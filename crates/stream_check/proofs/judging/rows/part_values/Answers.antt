use Rattle.std.proofs.Common.{◌∙◌, arith, rules}
use Rattle.std.proofs.lemmas.Int.{to_z-of_z}
use mir.Val.{SFits}
use mir.Syntax.{w128}
use Rattle.cert_soundness.specs.Tests.{bidders_of}
use Rattle.cert_check.specs.Fields.{worth_without}
use Rattle.cert_check.proofs.Written.{written-more, written-all}
use Rattle.stream_check.proofs.judging.rows.part_values.Goals as goal

pub loop-k-preserved : goal.loop-k-preserved
loop-k-preserved c =
    let value_fits : SFits w128 c.part_value.result = search rules in
    record {
      long = search rules;
      written = λ cert is.
          written-more (worth_without c.args.at.now.book.now cert.choice cert.withouts) c.loop-k.values c.loop-k.k _ (omega arith)
          (c.loop-k.invariant.written cert is)
          (to_z-of_z w128 c.part_value.result value_fits ∙ c.part_value.ensures cert is);
    }

pub returns : goal.returns
returns c = λ cert is.
    written-all (worth_without c.args.at.now.book.now cert.choice cert.withouts) c.loop-k.values c.loop-k.k (bidders_of c.args.at.now.book.now) (omega arith)
    (c.loop-k.invariant.written cert is)
