use Rattle.std.proofs.Common.{inl, inr, ◌≡◌, Some, sym, subst, ap, ◌∙◌}
use Rattle.std.proofs.lemmas.Result.{IfOk-weaker}
use Rattle.toml.specs.View.{table_view}
use Rattle.award_file.specs.Reading.{IsStop, reading, reading_of, stated_table}
use Rattle.award_file.proofs.ReadingLaws.{stated-table, no-table}
use Rattle.award_file.proofs.read.read_award.Goals as goal

pub returns-in-Ok-clause-ok : goal.returns-in-Ok-clause-ok
returns-in-Ok-clause-ok c =
    let stated : stated_table c.args.bytes.now ≡ Some (table_view c.in-Ok.table) = stated-table _ _ c.in-Ok.ensures.ok.0 c.in-Ok.ensures.ok.1 in
    IfOk-weaker c.read_table.result _ _ (λ award is. ap reading_of stated ∙ is) c.read_table.ensures.ok

pub returns-in-Ok-clause-err : goal.returns-in-Ok-clause-err
returns-in-Ok-clause-err c =
    let stated : stated_table c.args.bytes.now ≡ Some (table_view c.in-Ok.table) = stated-table _ _ c.in-Ok.ensures.ok.0 c.in-Ok.ensures.ok.1 in
    rw stated c.read_table.ensures.err

pub returns-in-Err-clause-err : goal.returns-in-Err-clause-err
returns-in-Err-clause-err c =
    elim c.stop_of.ensures [
      | inl memory ↦ subst (IsStop (reading c.args.bytes.now)) (sym memory.0) tt
      | inr text ↦ subst (IsStop (reading c.args.bytes.now)) (sym text.0) (ap reading_of (no-table c.args.bytes.now (c.in-Err.ensures.refused text.1)))
    ]
