use Rattle.std.proofs.Common.{◌∙◌, sym, inl, inr}
use Rattle.log_file.proofs.WideLaws.{mark-behind, mark-kept, no-mark, no-mark-whole}
use Rattle.log_file.proofs.wide.mark_len.Goals as goal

pub returns-in-len3-up-clause-behind : goal.returns-in-len3-up-clause-behind
returns-in-len3-up-clause-behind c = mark-behind c.args.bytes.now c.in-len3-up.len_at_least (sym c.is_mark.ensures ∙ c.if-is_mark.true)

pub returns-in-len3-up-clause-kept : goal.returns-in-len3-up-clause-kept
returns-in-len3-up-clause-kept c = mark-kept c.args.bytes.now c.in-len3-up.len_at_least (sym c.is_mark.ensures ∙ c.if-is_mark.true)

pub returns-in_default-clause-behind : goal.returns-in_default-clause-behind
returns-in_default-clause-behind c = no-mark-whole c.args.bytes.now (inl c.in_default.len_below)

pub returns-in_default-clause-kept : goal.returns-in_default-clause-kept
returns-in_default-clause-kept c = no-mark c.args.bytes.now (inl c.in_default.len_below)

pub returns-in_default-2-clause-behind : goal.returns-in_default-2-clause-behind
returns-in_default-2-clause-behind c = no-mark-whole c.args.bytes.now (inr (sym c.is_mark.ensures ∙ c.if-is_mark.false))

pub returns-in_default-2-clause-kept : goal.returns-in_default-2-clause-kept
returns-in_default-2-clause-kept c = no-mark c.args.bytes.now (inr (sym c.is_mark.ensures ∙ c.if-is_mark.false))
