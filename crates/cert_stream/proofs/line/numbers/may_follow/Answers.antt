use Rattle.std.proofs.Common.{subst, sym}
use Rattle.cert_stream.specs.declared.line.form.Form.{Form}
use Rattle.cert_stream.specs.Forms.{Decides}
use Rattle.cert_stream.proofs.line.numbers.may_follow.Goals as goal

pub returns-in-Nothing : goal.returns-in-Nothing
returns-in-Nothing c = subst (λ (f : Form). Decides f c.args.out.now c.args.count c.args.kept c.none_follows.result)
    (sym c.in-Nothing.is) c.none_follows.ensures

pub returns-in-Just : goal.returns-in-Just
returns-in-Just c = subst (λ (f : Form). Decides f c.args.out.now c.args.count c.args.kept c.one_follows.result) (sym c.in-Just.is) c.one_follows.ensures

pub returns-in-Counted : goal.returns-in-Counted
returns-in-Counted c = subst (λ (f : Form). Decides f c.args.out.now c.args.count c.args.kept c.count_follows.result)
    (sym c.in-Counted.is) c.count_follows.ensures

pub returns-in-Members : goal.returns-in-Members
returns-in-Members c = subst (λ (f : Form). Decides f c.args.out.now c.args.count c.args.kept c.member_follows.result)
    (sym c.in-Members.is) c.member_follows.ensures

pub returns-in-Both : goal.returns-in-Both
returns-in-Both c = subst (λ (f : Form). Decides f c.args.out.now c.args.count c.args.kept c.both_follow.result) (sym c.in-Both.is) c.both_follow.ensures
