use Rattle.std.proofs.Common.{◌≡◌, ◌<◌, ◌≤◌, ◌^◌, length, pos, to_z, ap, set, arith, rules, ℤ}
use Rattle.std.specs.Int.{w128}
use Rattle.std.proofs.lemmas.Int.{ints}
use Rattle.cert_stream.specs.Fields.{IsField}
use Rattle.cert_stream.proofs.WholeFields.{field_line, field_join}
use Rattle.cert_stream.proofs.line.fields.put_fields.Goals as goal

pub loop-count-preserved : goal.loop-count-preserved
loop-count-preserved c =
    let f = c.in-Some.field in
    let is : IsField c.args.piece.now c.loop-count.end c.in-Some.field = c.in-Some.ensures in
    let small : c.in-Some.field.size < 2 ^ 64 = search rules in
    let same : to_z w128 c.in-Some.field.size ≡ pos c.in-Some.field.size = omega (arith, ints, small) in
    let from : c.args.at ≤ c.loop-count.end = c.loop-count.invariant.from in
    let room : c.args.most ≤ length c.loop-count.out = omega (arith, c.loop-count.invariant.room, c.requires.room) in
    record {
      part = λ word beyond bytes part. field_join word c.args.most beyond c.loop-count.count c.loop-count.out _ bytes c.args.piece.now c.args.at
          c.loop-count.end f is small (omega arith) room (ap (λ (z : ℤ). set c.loop-count.out c.loop-count.count z) same) from
          (c.loop-count.invariant.part word beyond bytes part);
      line = field_line c.args.piece.now c.args.at c.loop-count.end f is from c.loop-count.invariant.line;
      from = omega (arith, from, is.from);
      within = omega (arith, is.within);
      room = search rules;
    }
