use Rattle.std.proofs.Common.{◌≡◌, ℕ, ◌+◌, ◌∙◌, ◌++◌, ◌∷◌, [], List, map, drop, None, ap, sym, append-nil, arith, string_bytes}
use Rattle.std.proofs.lemmas.List.{drop_all}
use Rattle.std.proofs.lemmas.Result.{err_from_is_err_and}
use Rattle.toml.specs.View.{items_view, table_view}
use Rattle.award_file.specs.declared.read.categories.Category.{Category as Read}
use Rattle.award_file.specs.Parts.{category_names, category_value, category_values}
use Rattle.award_file.specs.Reading.{IsFault}
use Rattle.award_file.specs.Stated.{tables_of}
use Rattle.award_file.specs.Walk.{Category, tables_fault, category_fault, category_of, name_or_none}
use Rattle.award_file.proofs.ListLaws.{left-out, table-here, stops-here, passes-here, reads-here, part-more}
use Rattle.award_file.proofs.read.categories.read_listed.Goals as goal

pub returns-in_err-category-clause-err : goal.returns-in_err-category-clause-err
returns-in_err-category-clause-err c =
    let p = err_from_is_err_and c.from_residual.result c.from_residual.ensures.1 in
    let here = table-here c.args.tables.now c.tables.element-index c.element-item.result c.in-Table.table c.tables-test.true c.element-item.is c.in-Table.is in
    let stop : IsFault (category_fault (category_names c.tables.categories.items) (table_view c.in-Table.table)) c.in_err-category.field-0.0 =
    rw c.deref.ensures.value at c.in_err-category.ensures.err in
    rw (p.1, p.2) (stops-here category_fault name_or_none _ _ _ _ _ _ here c.tables.invariant.0 stop)

pub tables-preserved : goal.tables-preserved
tables-preserved c =
    let here = table-here c.args.tables.now c.tables.element-index c.element-item.result c.in-Table.table c.tables-test.true c.element-item.is c.in-Table.is in
    let t = table_view c.in-Table.table in
    let later = tables_of (items_view (drop (c.tables.element-index + 1) c.args.tables.now)) in
    let items : c.push.new.self.items ≡ c.tables.categories.items ++ c.in_ok-category.category ∷ [] = c.in_ok-push.ensures.items in
    let is : category_value c.in_ok-category.category ≡ category_of t = c.in_ok-category.ensures.ok.1 in
    let passes : category_fault (category_names c.tables.categories.items) t ≡ None = rw c.deref.ensures.value at c.in_ok-category.ensures.ok.0 in
    let names = part-more (λ (r : Read). string_bytes r.name) c.tables.categories.items c.in_ok-category.category (name_or_none t)
    (ap (λ (v : Category). v.name) is) in
    let values = part-more category_value c.tables.categories.items c.in_ok-category.category (category_of t) is in (
      ap (λ (before : List (List ℕ)). tables_fault category_fault name_or_none before later) (ap category_names items ∙ names)
          ∙ passes-here category_fault name_or_none (category_names c.tables.categories.items) t _ later _ here c.tables.invariant.0 passes,
      ap (λ (read : List Category). read ++ map category_of later) (ap category_values items ∙ values)
          ∙ reads-here category_of (category_values c.tables.categories.items) t _ later _ here c.tables.invariant.1,
    )

pub tables-preserved-in_default : goal.tables-preserved-in_default
tables-preserved-in_default c =
    let same = left-out c.args.tables.now c.tables.element-index c.element-item.result c.tables-test.true c.element-item.is c.in_default.not-Table in
    rw same c.tables.invariant

pub returns-clause-ok : goal.returns-clause-ok
returns-clause-ok c =
    let done = drop_all c.tables.element-index c.args.tables.now (omega arith) in
    let none = rw done at c.tables.invariant.0 in
    let read = rw done at c.tables.invariant.1 in
    (sym none, sym (append-nil (category_values c.tables.categories.items)) ∙ read)
