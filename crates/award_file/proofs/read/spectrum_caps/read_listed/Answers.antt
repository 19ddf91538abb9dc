use Rattle.std.proofs.Common.{◌≡◌, arith, ℕ, ◌+◌, ◌∙◌, ◌++◌, ◌∷◌, [], List, map, drop, None, ap, sym, append-nil}
use Rattle.std.proofs.lemmas.List.{drop_all}
use Rattle.std.proofs.lemmas.Result.{err_from_is_err_and}
use Rattle.toml.specs.View.{items_view, table_view}
use Rattle.auction_rules.specs.Terms.{SpectrumCap}
use Rattle.award_file.specs.declared.caps.SpectrumCap.{SpectrumCap as Kept}
use Rattle.award_file.specs.Fields.{cap_value, cap_values}
use Rattle.award_file.specs.Parts.{limits}
use Rattle.award_file.specs.Reading.{IsFault}
use Rattle.award_file.specs.Stated.{tables_of}
use Rattle.award_file.specs.Walk.{tables_fault, cap_fault, cap_of, limit_or_none}
use Rattle.award_file.proofs.ListLaws.{left-out, table-here, stops-here, passes-here, reads-here, part-more}
use Rattle.award_file.proofs.read.spectrum_caps.read_listed.Goals as goal

pub returns-in_err-cap-clause-err : goal.returns-in_err-cap-clause-err
returns-in_err-cap-clause-err c =
    let p = err_from_is_err_and c.from_residual.result c.from_residual.ensures.1 in
    let here = table-here c.args.tables.now c.tables.element-index c.element-item.result c.in-Table.table c.tables-test.true c.element-item.is c.in-Table.is in
    let stop : IsFault (cap_fault c.args.categories (limits c.tables.caps.items) (table_view c.in-Table.table)) c.in_err-cap.field-0.0 =
    rw c.deref.ensures.value at c.in_err-cap.ensures.err in
    rw (p.1, p.2) (stops-here (cap_fault c.args.categories) limit_or_none _ _ _ _ _ _ here c.tables.invariant.0 stop)

pub tables-preserved : goal.tables-preserved
tables-preserved c =
    let here = table-here c.args.tables.now c.tables.element-index c.element-item.result c.in-Table.table c.tables-test.true c.element-item.is c.in-Table.is in
    let t = table_view c.in-Table.table in
    let n = c.args.categories in
    let later = tables_of (items_view (drop (c.tables.element-index + 1) c.args.tables.now)) in
    let items : c.push.new.self.items ≡ c.tables.caps.items ++ c.in_ok-cap.cap ∷ [] = c.in_ok-push.ensures.items in
    let is : cap_value c.in_ok-cap.cap ≡ cap_of n t = c.in_ok-cap.ensures.ok.1 in
    let passes : cap_fault n (limits c.tables.caps.items) t ≡ None = rw c.deref.ensures.value at c.in_ok-cap.ensures.ok.0 in
    let part = part-more (λ (r : Kept). r.limit) c.tables.caps.items c.in_ok-cap.cap (limit_or_none t) (ap (λ (v : SpectrumCap). v.limit) is) in
    let values = part-more cap_value c.tables.caps.items c.in_ok-cap.cap (cap_of n t) is in (
      ap (λ (before : List ℕ). tables_fault (cap_fault n) limit_or_none before later) (ap limits items ∙ part)
          ∙ passes-here (cap_fault n) limit_or_none (limits c.tables.caps.items) t _ later _ here c.tables.invariant.0 passes,
      ap (λ (read : List SpectrumCap). read ++ map (cap_of n) later) (ap cap_values items ∙ values) ∙ reads-here (cap_of n)
          (cap_values c.tables.caps.items) t _ later _ here c.tables.invariant.1,
    )

pub tables-preserved-in_default : goal.tables-preserved-in_default
tables-preserved-in_default c =
    let same = left-out c.args.tables.now c.tables.element-index c.element-item.result c.tables-test.true c.element-item.is c.in_default.not-Table in
    rw same c.tables.invariant

pub returns-clause-ok : goal.returns-clause-ok
returns-clause-ok c =
    let done = drop_all c.tables.element-index c.args.tables.now (omega arith) in
    let none = rw done at c.tables.invariant.0 in
    let caps = rw done at c.tables.invariant.1 in
    (sym none, sym (append-nil (cap_values c.tables.caps.items)) ∙ caps)
