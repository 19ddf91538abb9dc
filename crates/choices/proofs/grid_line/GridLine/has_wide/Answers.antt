use Rattle.std.proofs.Common.{◌≡◌, ◌∙◌, sym, ap}
use Rattle.std.proofs.lemmas.Bool.Decides.{Decides-int_eq}
use Rattle.std.proofs.lemmas.Slice.Eq.{slice_eq-Decides}
use Rattle.choices.specs.GridLines.{numbers_in}
use Rattle.choices.proofs.grid_line.GridLine.has_wide.Goals as goal

pub returns-in-Wide : goal.returns-in-Wide
returns-in-Wide c = λ test.
    let same : c.as_slice.result.now ≡ c.args.others.now =
    (slice_eq-Decides Decides-int_eq c.as_slice.result.now c.args.others.now c.eq.result c.eq.ensures).0 test in
    sym same ∙ c.as_slice.ensures.value ∙ ap numbers_in (sym c.in-Wide.is)
