use Rattle.std.proofs.Common.{◌≡◌, subst, sym, rules, FitsSigned}
use Rattle.std.specs.Prelude.{pos, ◌≤◌, ℕ}
use Rattle.std.specs.Int.{w128}
use Rattle.std.proofs.lemmas.Int.{to_z-of_z}
use Rattle.cert_grammar.specs.Lines.{FitNumbers}
use Rattle.cert_stream.proofs.Plans.{rows_bidder}
use Rattle.cert_stream.specs.declared.due.NextLine.{NextLine}
use Rattle.cert_stream.specs.Dues.{Follows, numbers_due, IsKnown}
use Rattle.cert_stream.specs.Order.{ComesBehind, IsRowNext}
use Rattle.cert_stream.proofs.next.next.Goals as goal

pub returns-in-Entries-clause-next : goal.returns-in-Entries-clause-next
returns-in-Entries-clause-next c = λ ns fit known. subst (λ (d : NextLine). Follows c.args.shape.bidders c.args.shape.states c.args.choice.now d ns
    c.next_entries.result) (sym c.in-Entries.is) (c.next_entries.ensures.next ns)

pub next_rows-requires : goal.next_rows-requires
next_rows-requires c =
    let b = c.args.shape.bidders in
    let s = c.args.shape.states in
    let (ns, fit, known) = c.requires.numbers in
    let f : FitsSigned w128 c.args.first = search rules in
    let count : (r : ℕ) → c.args.first ≡ pos r → r ≤ 10 → c.row_count.result ≡ r = simp to_z-of_z at c.row_count.ensures in
    rows_bidder b c.args.shape.states ns c.args.choice.now c.args.first c.row_count.result
    (subst (λ (d : NextLine). FitNumbers (numbers_due b s d) ns) c.in-Rows.is fit)
    (subst (λ (d : NextLine). IsKnown d ns c.args.choice.now c.args.first) c.in-Rows.is known) count

pub returns-in-Version-clause-next : goal.returns-in-Version-clause-next
returns-in-Version-clause-next c = λ ns fit known. subst (λ (d : NextLine). Follows c.args.shape.bidders c.args.shape.states c.args.choice.now d ns
    c.next_version.result) (sym c.in-Version.is) (c.next_version.ensures.next c.args.choice.now ns)

pub returns-in-Rows-clause-order : goal.returns-in-Rows-clause-order
returns-in-Rows-clause-order c =
    let f : FitsSigned w128 c.args.first = search rules in
    let count : (r : ℕ) → c.args.first ≡ pos r → r ≤ 10 → c.row_count.result ≡ r = simp to_z-of_z at c.row_count.ensures in
    subst (λ (d : NextLine). ComesBehind c.args.shape.bidders c.args.choice.now c.args.first d c.next_rows.result) (sym c.in-Rows.is)
    (λ r is few. subst (λ (n : ℕ). IsRowNext n c.next_rows.result) (count r is few) c.next_rows.ensures.order)

pub returns-in-Entries-clause-order : goal.returns-in-Entries-clause-order
returns-in-Entries-clause-order c = subst (λ (d : NextLine). ComesBehind c.args.shape.bidders c.args.choice.now c.args.first d c.next_entries.result)
    (sym c.in-Entries.is) c.next_entries.ensures.order
