use Rattle.std.proofs.lemmas.Result.{err_from_is_err_and}
use Rattle.toml.specs.View.{table_view}
use Rattle.award_file.specs.Walk.{award_fault, terms_of}
use Rattle.award_file.proofs.ReadingLaws.{fault-stops}
use Rattle.award_file.proofs.read.read_table.Goals as goal

pub returns-in_err-parts-clause-err : goal.returns-in_err-parts-clause-err
returns-in_err-parts-clause-err c =
    let t = table_view c.args.table.now in
    let e = err_from_is_err_and c.from_residual.result c.from_residual.ensures.1 in
    rw (e.1, e.2) (fault-stops (award_fault t) (terms_of t) _ c.in_err-parts.ensures.err)

pub make_award-requires : goal.make_award-requires
make_award-requires c = record { stated = table_view c.args.table.now; passes = c.in_ok-parts.ensures.ok.0; is = c.in_ok-parts.ensures.ok.1 }
