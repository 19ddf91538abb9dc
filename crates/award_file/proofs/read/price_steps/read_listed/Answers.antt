use Rattle.std.proofs.Common.{◌≡◌, ℕ, ◌+◌, ◌∙◌, ◌++◌, ◌∷◌, [], List, map, drop, None, ap, sym, append-nil, arith}
use Rattle.std.proofs.lemmas.List.{drop_all}
use Rattle.std.proofs.lemmas.Result.{err_from_is_err_and}
use Rattle.toml.specs.View.{items_view, table_view}
use Rattle.award_file.specs.Parts.{excesses}
use Rattle.award_file.specs.Reading.{IsFault}
use Rattle.award_file.specs.Stated.{tables_of}
use Rattle.award_file.specs.Walk.{tables_fault, step_fault, threshold_of, excess_or_none}
use Rattle.award_file.proofs.ListLaws.{left-out, table-here, stops-here, passes-here, reads-here, part-more}
use Rattle.award_file.proofs.read.price_steps.read_listed.Goals as goal

pub returns-in_err-step-clause-err : goal.returns-in_err-step-clause-err
returns-in_err-step-clause-err c =
    let p = err_from_is_err_and c.from_residual.result c.from_residual.ensures.1 in
    let here = table-here c.args.tables.now c.tables.element-index c.element-item.result c.in-Table.table c.tables-test.true c.element-item.is c.in-Table.is in
    let stop : IsFault (step_fault (excesses c.tables.steps.items) (table_view c.in-Table.table)) c.in_err-step.field-0.0 =
    rw c.deref.ensures.value at c.in_err-step.ensures.err in
    rw (p.1, p.2) (stops-here step_fault excess_or_none _ _ _ _ _ _ here c.tables.invariant.0 stop)

pub tables-preserved : goal.tables-preserved
tables-preserved c =
    let here = table-here c.args.tables.now c.tables.element-index c.element-item.result c.in-Table.table c.tables-test.true c.element-item.is c.in-Table.is in
    let t = table_view c.in-Table.table in
    let later = tables_of (items_view (drop (c.tables.element-index + 1) c.args.tables.now)) in
    let items : c.push.new.self.items ≡ c.tables.steps.items ++ c.in_ok-step.step ∷ [] = c.in_ok-push.ensures.items in
    let is : c.in_ok-step.step ≡ threshold_of t = c.in_ok-step.ensures.ok.1 in
    let passes : step_fault (excesses c.tables.steps.items) t ≡ None = rw c.deref.ensures.value at c.in_ok-step.ensures.ok.0 in
    let part : excesses (c.tables.steps.items ++ c.in_ok-step.step ∷ []) ≡ excesses c.tables.steps.items ++ excess_or_none t ∷ [] =
    part-more (λ (s : ℕ × ℕ). s.0) c.tables.steps.items c.in_ok-step.step (excess_or_none t) (ap (λ (s : ℕ × ℕ). s.0) is) in (
      ap (λ (before : List ℕ). tables_fault step_fault excess_or_none before later) (ap excesses items ∙ part)
          ∙ passes-here step_fault excess_or_none (excesses c.tables.steps.items) t _ later _ here c.tables.invariant.0 passes,
      ap (λ (read : List (ℕ × ℕ)). read ++ map threshold_of later) (items ∙ ap (λ (s : ℕ × ℕ). c.tables.steps.items ++ s ∷ []) is)
          ∙ reads-here threshold_of c.tables.steps.items t _ later _ here c.tables.invariant.1,
    )

pub tables-preserved-in_default : goal.tables-preserved-in_default
tables-preserved-in_default c =
    let same = left-out c.args.tables.now c.tables.element-index c.element-item.result c.tables-test.true c.element-item.is c.in_default.not-Table in
    rw same c.tables.invariant

pub returns-clause-ok : goal.returns-clause-ok
returns-clause-ok c =
    let done = drop_all c.tables.element-index c.args.tables.now (omega arith) in
    let none = rw done at c.tables.invariant.0 in
    let read = rw done at c.tables.invariant.1 in
    (sym none, sym (append-nil c.tables.steps.items) ∙ read)
