use Rattle.std.proofs.Common.{◌∙◌, ◌+◌, ◌*◌, ◌≤◌, List, length, refl, sym, ap, subst, arith, rules}
use Rattle.std.specs.Prelude.{ℤ}
use Rattle.std.proofs.lemmas.Int.{to_z-of_z}
use mir.Val.{SFits, to_z, of_z}
use mir.Syntax.{w128}
use Rattle.auction_model.specs.Book.{Book}
use Rattle.auction_model.specs.Prices.{weight_of}
use Rattle.cert_grammar.specs.CertText.{AllInRange}
use Rattle.cert_soundness.specs.Tests.{bidders_of, states}
use Rattle.table_check.specs.Worths.{HasSmallWorths}
use Rattle.cert_check.proofs.LoweredLines.{past-C9}
use Rattle.stream_check.proofs.LoweredCome.{pay-there, worths-are}
use Rattle.stream_check.proofs.TableCome.{grown-next, late-small, lowered-shows}
use Rattle.std.specs.Prelude.{IsTrue}
use Rattle.cert_stream.specs.declared.due.Table.TheVariants.{Lowered}
use Rattle.stream_check.proofs.judging.claims.lowered_line.Goals as goal

pub put_gains-requires-clause-pay : goal.put_gains-requires-clause-pay
put_gains-requires-clause-pay c =
    let cert = c.requires.some.0 in
    let is = c.requires.some.1 in
    let pay_is = c.numbers_in.ensures ∙ pay-there c.args.at.now cert is c.args.k c.requires.due in (
      ap (λ (l : List ℤ). length l) pay_is ∙ is.kept.pay.0 ∙ ap bidders_of (sym c.requires.claim.book),
      subst AllInRange (sym pay_is) is.kept.pay.1,
    )

pub put_gains-requires-clause-room : goal.put_gains-requires-clause-room
put_gains-requires-clause-room c = subst (λ (b : Book). bidders_of b ≤ 16) (sym c.requires.claim.book) (omega (arith, c.kept.ensures.bidders))

pub invariant_of-offers : goal.invariant_of-offers
invariant_of-offers c =
    let den_fits : SFits w128 c.args.claim.now.den = search rules in
    record {
      sizes = rw (to_z-of_z w128 c.args.claim.now.den den_fits) (subst (λ (b : Book). HasSmallWorths b c.args.claim.now.den c.put_gains.new.gains)
          c.requires.claim.book c.put_gains.ensures.small);
    }

pub lowered_rules-rules-requires-clause-offers : goal.lowered_rules-rules-requires-clause-offers
lowered_rules-rules-requires-clause-offers c =
    let den_fits : SFits w128 c.args.claim.now.den = search rules in
    record {
      book = refl;
      nobody = refl;
      net = λ cert is. worths-are c.args.at.now cert is c.args.k c.requires.due c.args.claim.now (to_z w128 (of_z w128 c.args.claim.now.den))
          c.numbers_in.result.now c.put_gains.new.gains c.requires.claim (to_z-of_z w128 c.args.claim.now.den den_fits)
          (c.numbers_in.ensures ∙ pay-there c.args.at.now cert is c.args.k c.requires.due) c.put_gains.ensures.gains;
    }

pub after_entries-requires-clause-late : goal.after_entries-requires-clause-late
after_entries-requires-clause-late c =
    let at = c.args.at.now in
    let cert = c.requires.some.0 in
    late-small at.book.now (weight_of at.weights.now) cert 9 ((bidders_of at.book.now + 1) * states at.book.now) 1 c.late_sum.result (omega arith)
    (c.late_sum.ensures cert c.requires.some.1)

pub returns : goal.returns
returns c = λ cert next is follows. (
  let at = c.args.at.now in
      let early = c.late_sum.ensures cert is in
      lowered-shows c.args.at.now cert is c.args.k c.requires.due next c.lowered_rules-rules.result.failed c.after_entries.result.failed c.late_sum.result
      c.after_entries.result.late follows (c.lowered_rules-rules.ensures.failed cert is) early
      c.after_entries.ensures.inside
      (λ last j. c.after_entries.ensures.whole last (weight_of at.weights.now) cert 1 j early
      (λ q past. past-C9 at.book.now (weight_of at.weights.now) cert q past))
      c.after_entries.ensures.none,
  grown-next c.args.at.now cert is Lowered c.args.k c.requires.due next c.after_entries.result.grows follows
      (λ seen. c.lowered_rules-rules.ensures.grows (subst IsTrue c.after_entries.ensures.grows seen)),
)
