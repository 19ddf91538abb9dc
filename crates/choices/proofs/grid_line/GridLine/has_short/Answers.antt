use Rattle.std.proofs.Common.{◌≡◌, ◌∙◌, ℕ, List, map, pos, sym, ap}
use Rattle.std.proofs.lemmas.Bool.Decides.{Decides-eqb}
use Rattle.std.proofs.lemmas.Slice.Eq.{slice_eq-Decides}
use Rattle.choices.specs.GridLines.{numbers_in}
use Rattle.choices.proofs.grid_line.GridLine.has_short.Goals as goal

pub returns-in-Short : goal.returns-in-Short
returns-in-Short c = λ test.
    let same : c.as_slice.result.now ≡ c.args.others.now =
    (slice_eq-Decides Decides-eqb c.as_slice.result.now c.args.others.now c.eq.result c.eq.ensures).0 test in
    ap (λ (l : List ℕ). map (λ n. pos n) l) (sym same ∙ c.as_slice.ensures.value) ∙ ap numbers_in (sym c.in-Short.is)
