use Rattle.std.proofs.Common.{◌≡◌, ◌∙◌, ◌-◌, List, inl, length, get_or, pos, sym, ap, rules}
use Rattle.std.specs.Prelude.{ℤ}
use Rattle.std.proofs.lemmas.Int.{to_z-of_z}
use mir.Val.{SFits}
use mir.Syntax.{w128}
use Rattle.cert_grammar.specs.Certificate.{RowValue}
use Rattle.cert_soundness.specs.Tests.{bidders_of}
use Rattle.cert_stream.specs.declared.due.NextLine.TheVariants.{Multipliers}
use Rattle.cert_stream.specs.LinesLeft.{row_at}
use Rattle.stream_check.proofs.MemberCome.{row-whole, pair-there, pair-totals, pair-inside}
use Rattle.stream_check.proofs.NextLaws.{next-due}
use Rattle.stream_check.proofs.RowCome.{pair-next, row-is}
use Rattle.stream_check.proofs.kept.one_more.Goals as goal

pub members_in-members-requires-clause-due : goal.members_in-members-requires-clause-due
members_in-members-requires-clause-due c = inl c.requires.due

pub with_row-requires-clause-some : goal.with_row-requires-clause-some
with_row-requires-clause-some c =
    let cert = c.requires.some.0 in
    let is = c.requires.some.1 in (
      cert,
      bidders_of c.args.at.now.book.now,
      length cert.rows - c.args.left,
      pair-totals c.args.at.now cert is c.args.left c.requires.due,
      is.kept.rows,
      pair-inside c.args.at.now cert is c.args.left c.requires.due,
      is.kept.few,
    )

pub with_row-requires-clause-range : goal.with_row-requires-clause-range
with_row-requires-clause-range c =
    let cert = c.requires.some.0 in
    let is = c.requires.some.1 in
    let pair_is = c.numbers_in-pair.ensures ∙ pair-there c.args.at.now cert is c.args.left c.requires.due in
    let first_fits : SFits w128 (get_or c.numbers_in-pair.result.now 0 (pos 0)) = search rules in
    let second_fits : SFits w128 (get_or c.numbers_in-pair.result.now 1 (pos 0)) = search rules in
    let range = (row-whole c.args.at.now cert is c.args.left (inl c.requires.due)).range in
    let first : get_or c.numbers_in-pair.result.now 0 (pos 0) ≡ (row_at cert c.args.left).first = ap (λ (l : List ℤ). get_or l 0 (pos 0)) pair_is in
    let second : get_or c.numbers_in-pair.result.now 1 (pos 0) ≡ (row_at cert c.args.left).second = ap (λ (l : List ℤ). get_or l 1 (pos 0)) pair_is in
    rw (
      to_z-of_z w128 (get_or c.numbers_in-pair.result.now 0 (pos 0)) first_fits,
      to_z-of_z w128 (get_or c.numbers_in-pair.result.now 1 (pos 0)) second_fits,
      first,
      second,
    ) range

pub returns : goal.returns
returns c = λ cert next is follows.
    let pair_is = c.numbers_in-pair.ensures ∙ pair-there c.args.at.now cert is c.args.left c.requires.due in
    let first_fits : SFits w128 (get_or c.numbers_in-pair.result.now 0 (pos 0)) = search rules in
    let second_fits : SFits w128 (get_or c.numbers_in-pair.result.now 1 (pos 0)) = search rules in
    let first : get_or c.numbers_in-pair.result.now 0 (pos 0) ≡ (row_at cert c.args.left).first = ap (λ (l : List ℤ). get_or l 0 (pos 0)) pair_is in
    let second : get_or c.numbers_in-pair.result.now 1 (pos 0) ≡ (row_at cert c.args.left).second = ap (λ (l : List ℤ). get_or l 1 (pos 0)) pair_is in
    let row = row-is cert c.args.left in
    pair-next c.args.at.now.book.now cert c.args.left next c.with_row.result (next-due c.args.at.now cert (Multipliers c.args.left) next c.requires.due follows)
    (c.with_row.ensures cert (length cert.rows - c.args.left) (pair-totals c.args.at.now cert is c.args.left c.requires.due)
    (ap (λ (r : RowValue). r.members) (sym row) ∙ sym (c.as_slice.ensures ∙ c.members_in-members.ensures cert is))
    (ap (λ (r : RowValue). r.first) (sym row) ∙ sym first ∙ sym (to_z-of_z w128 (get_or c.numbers_in-pair.result.now 0 (pos 0)) first_fits))
    (ap (λ (r : RowValue). r.second) (sym row) ∙ sym second ∙ sym (to_z-of_z w128 (get_or c.numbers_in-pair.result.now 1 (pos 0)) second_fits)))
