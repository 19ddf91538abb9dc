use Rattle.std.proofs.Common.{◌∙◌, [], arith, length}
use Rattle.std.specs.Prelude.{slice_index_or}
use Rattle.std.proofs.lemmas.List.{take_all}
use Rattle.cert_check.proofs.whole.grids.put_line.Goals as goal

pub returns : goal.returns
returns c = c.put_part.ensures ∙ take_all (length c.args.line.now) (slice_index_or c.args.table.now c.args.k [])
    (omega (arith, c.requires.places, c.kept.ensures c.args.k c.requires.line))
