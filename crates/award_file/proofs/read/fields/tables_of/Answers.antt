use Rattle.std.proofs.Common.{◌≡◌, true, sym, subst, ◌∙◌}
use Rattle.toml.specs.Text.{are_tables}
use Rattle.toml.specs.View.{items_view}
use Rattle.award_file.proofs.FieldLaws.{tables-count}
use Rattle.award_file.proofs.read.fields.tables_of.Goals as goal

pub returns-then-are_tables-clause-count : goal.returns-then-are_tables-clause-count
returns-then-are_tables-clause-count c =
    let same = c.deref.ensures.value ∙ sym c.deref-then-are_tables.ensures.value in
    let all = sym c.are_tables.ensures ∙ c.if-are_tables.true in
    tables-count c.deref-then-are_tables.result.now (subst (λ vs. are_tables (items_view vs) ≡ true) same all)
