use Rattle.std.proofs.Common.{List, ℕ, subst, rules}
use Rattle.cert_text.specs.Readers.{HaltsCounted, IsCount, IsNoCount}
use Rattle.cert_text.proofs.SmallNumbers.{count_next, count_other, count_small}
use Rattle.cert_text.proofs.read.fields.take_count.Goals as goal

pub returns-in_err-read-clause-halts : goal.returns-in_err-read-clause-halts
returns-in_err-read-clause-halts c =
    let h : HaltsCounted c.args.bytes.now c.args.place c.args.bidders c.in_err-read.field-0.0 =
    λ n like. c.in_err-read.ensures.halts n (λ ms fit. count_small c.args.bytes.now c.args.place c.args.bidders c.args.bytes.now c.args.place ms
    (like.to ms fit)) in
    search rules

pub returns-in-Some-clause-leads : goal.returns-in-Some-clause-leads
returns-in-Some-clause-leads c =
    count_next c.args.bytes.now c.args.place c.args.bidders c.in_ok-read.read.numbers c.in_ok-read.read.next c.in_ok-read.ensures.line c.in-Some.count
    (subst (λ (ns : List ℕ). IsCount c.args.bidders ns c.in-Some.count) c.items.ensures c.in-Some.ensures)

pub returns-clause-halts : goal.returns-clause-halts
returns-clause-halts c =
    count_other c.args.bytes.now c.args.place c.args.bidders c.in_ok-read.read.numbers c.in_ok-read.read.next c.in_ok-read.ensures.line
    (subst (IsNoCount c.args.bidders) c.items.ensures c.in-None.ensures)
