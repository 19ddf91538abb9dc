use Rattle.std.proofs.Common.{arith, ◌≡◌}
use Rattle.std.proofs.lemmas.Bool.Decides.{nat_tests}
use Rattle.log_file.proofs.FieldLaws.{splits, first_of, only_count, other_counts}
use Rattle.log_file.proofs.fields.+add_counts.Goals as goal

pub returns-in_default-clause-none : goal.returns-in_default-clause-none
returns-in_default-clause-none t c = λ _ ns are is.
    let at = splits c.args.text.now c.split_at.result.0.now c.split_at.result.1.now c.field_len.result c.split_at.ensures.front c.split_at.ensures.back
    c.field_len.ensures.own c.field_len.ensures.stops in
    let first = first_of c.args.categories _ _ _ ns c.requires.some at are is in
    c.in_default.ensures.none first.count first.low first.field_is

pub returns-in-empty-clause-none : goal.returns-in-empty-clause-none
returns-in-empty-clause-none t c = λ other ns are is.
    let at = splits c.args.text.now c.split_at.result.0.now c.split_at.result.1.now c.field_len.result c.split_at.ensures.front c.split_at.ensures.back
    c.field_len.ensures.own c.field_len.ensures.stops in
    let first = first_of c.args.categories _ _ _ ns c.requires.some at are is in
    let one : c.args.categories ≡ 1 = only_count c.args.categories _ _ ns first are (omega (arith, c.in-empty.len_below)) in
    grind (arith, nat_tests)

pub returns-then-categories-gt1-clause-none : goal.returns-then-categories-gt1-clause-none
returns-then-categories-gt1-clause-none t c = λ failed ns are is.
    let at = splits c.args.text.now c.split_at.result.0.now c.split_at.result.1.now c.field_len.result c.split_at.ensures.front c.split_at.ensures.back
    c.field_len.ensures.own c.field_len.ensures.stops in
    let first = first_of c.args.categories _ _ _ ns c.requires.some at are is in
    let others = other_counts c.args.categories _ _ ns first are (omega (arith, c.in-len1-up.len_at_least)) in
    c.add_counts.ensures.none failed first.later others.1 others.2

pub returns-else-categories-gt1-clause-none : goal.returns-else-categories-gt1-clause-none
returns-else-categories-gt1-clause-none t c = λ failed ns are is.
    let at = splits c.args.text.now c.split_at.result.0.now c.split_at.result.1.now c.field_len.result c.split_at.ensures.front c.split_at.ensures.back
    c.field_len.ensures.own c.field_len.ensures.stops in
    let first = first_of c.args.categories _ _ _ ns c.requires.some at are is in
    let others = other_counts c.args.categories _ _ ns first are (omega (arith, c.in-len1-up.len_at_least)) in
    omega (arith, others.0, c.if-categories-gt1.false)
