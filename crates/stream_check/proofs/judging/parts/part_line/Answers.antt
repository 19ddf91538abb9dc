use Rattle.std.proofs.Common.{pos, replicate, refl, arith}
use Rattle.cert_check.proofs.Worths.{plain-small, plain-worth}
use Rattle.stream_check.proofs.judging.parts.part_line.Goals as goal

pub invariant_of-offers : goal.invariant_of-offers
invariant_of-offers c = record {
  sizes = plain-small c.args.at.now.book.now (replicate 16 (pos 0)) 16 c.kept.ensures refl
      (omega (arith, c.kept.ensures.bidders));
}

pub part_rules-requires-clause-offers : goal.part_rules-requires-clause-offers
part_rules-requires-clause-offers c = record {
  book = refl;
  skip_is = refl;
  net = λ j i some le. plain-worth c.args.at.now.book.now
      (replicate 16 (pos 0)) 16 refl j i;
}
