use Rattle.std.proofs.Common.{◌≤◌, ◌<◌, List, ℕ, length, sym, subst, arith, rules}
use Rattle.cert_grammar.specs.CertText.{AreMembers}
use Rattle.cert_grammar.specs.Lines.{members}
use Rattle.cert_text.proofs.SmallNumbers.{members_next, members_other, members_small}
use Rattle.cert_text.proofs.read.fields.take_members.Goals as goal

pub returns-in_err-read-clause-halts : goal.returns-in_err-read-clause-halts
returns-in_err-read-clause-halts c = let few : c.args.bidders ≤ 65535 = omega (arith, c.ranges.bidders.fits) in
    let h = c.in_err-read.ensures.halts (members c.args.bidders) (members_small c.args.bytes.now c.args.place c.args.bidders c.args.bytes.now c.args.place
    few) in search rules

pub returns-then-not-are_members-clause-halts : goal.returns-then-not-are_members-clause-halts
returns-then-not-are_members-clause-halts c =
    members_other c.args.bytes.now c.args.place c.args.bidders c.in_ok-read.read.numbers c.in_ok-read.read.next c.in_ok-read.ensures.line
    (λ h. let yes = c.are_members.ensures.1 (subst (λ (ns : List ℕ). (0 < length ns) × AreMembers c.args.bidders 0 ns) (sym c.items.ensures) h) in
    cc (yes, c.if-not-are_members.true))

pub returns-clause-leads : goal.returns-clause-leads
returns-clause-leads c =
    let h = rw c.items.ensures at (c.are_members.ensures.0 c.if-not-are_members.false) in
    members_next c.args.bytes.now c.args.place c.args.bidders c.in_ok-read.read.numbers c.in_ok-read.read.next c.in_ok-read.ensures.line h.0 h.1
