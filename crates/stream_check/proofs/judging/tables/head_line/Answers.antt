use Rattle.std.proofs.Common.{◌+◌, ◌*◌, pos, replicate, refl, arith, subst}
use Rattle.auction_model.specs.Prices.{weight_of}
use Rattle.cert_soundness.specs.Tests.{bidders_of, states}
use Rattle.cert_check.proofs.Worths.{plain-small, plain-worth}
use Rattle.cert_check.proofs.HeadLines.{past-C3}
use Rattle.cert_stream.specs.declared.due.Table.TheVariants.{Head}
use Rattle.stream_check.proofs.TableCome.{grown-next, line-inside, late-small, head-late, head-shows}
use Rattle.std.specs.Prelude.{IsTrue}
use Rattle.stream_check.proofs.judging.tables.head_line.Goals as goal

pub invariant_of-offers : goal.invariant_of-offers
invariant_of-offers c = record {
  sizes = plain-small c.args.at.now.book.now (replicate 16 (pos 0)) 16 c.kept.ensures refl
      (omega (arith, c.kept.ensures.bidders));
}

pub returns : goal.returns
returns c = λ cert next is follows. (
  let at = c.args.at.now in
      let early = c.merge_early-late.ensures at.book.now (weight_of at.weights.now) cert 3 ((bidders_of at.book.now + 1) * states at.book.now)
      (head-late c.args.at.now cert is c.args.k c.requires.due) (λ none. c.keeps_value.ensures cert is) in
      head-shows c.args.at.now cert is c.args.k c.requires.due next c.head_rules-rules.result.failed c.after_entries.result.failed c.merge_early-late.result
      c.after_entries.result.late follows (c.head_rules-rules.ensures.failed cert is) early
      c.after_entries.ensures.inside
      (λ last j. c.after_entries.ensures.whole last (weight_of at.weights.now) cert (c.args.k + 1) j early
      (λ q past. past-C3 at.book.now (weight_of at.weights.now) cert q (omega (arith, past, last))))
      c.after_entries.ensures.none,
  grown-next c.args.at.now cert is Head c.args.k c.requires.due next c.after_entries.result.grows follows
      (λ seen. c.head_rules-rules.ensures.grows (subst IsTrue c.after_entries.ensures.grows seen)),
)

pub head_rules-rules-requires-clause-offers : goal.head_rules-rules-requires-clause-offers
head_rules-rules-requires-clause-offers c = record {
  book = refl;
  skip_is = refl;
  net = λ j i some le. plain-worth c.args.at.now.book.now
      (replicate 16 (pos 0)) 16 refl j i;
}

pub after_entries-requires-clause-late : goal.after_entries-requires-clause-late
after_entries-requires-clause-late c =
    let at = c.args.at.now in
    let cert = c.requires.some.0 in
    let is = c.requires.some.1 in
    let early = c.merge_early-late.ensures at.book.now (weight_of at.weights.now) cert 3 ((bidders_of at.book.now + 1) * states at.book.now)
    (head-late c.args.at.now cert is c.args.k c.requires.due) (λ none. c.keeps_value.ensures cert is) in
    late-small at.book.now (weight_of at.weights.now) cert 3 ((bidders_of at.book.now + 1) * states at.book.now) (c.args.k + 1) c.merge_early-late.result
    (omega (arith, line-inside c.args.at.now cert is Head c.args.k c.requires.due, c.kept.ensures.bidders)) early
