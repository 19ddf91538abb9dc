use Rattle.std.proofs.Common.{ℕ, ◌<◌, length, sym, ◌∙◌, subst}
use Rattle.std.proofs.lemmas.Int.{to_z-of_z}
use Rattle.lin_solve.specs.Elimination.{IsMix, IsPrimitivePart, Reduces}
use Rattle.wide_num.specs.Sums.{nth}
use Rattle.lin_solve.proofs.Reducing.{reduces, mix_small, if_ok}
use Rattle.lin_solve.proofs.rows.reduced.Goals as goal

pub primitive-requires-clause-room : goal.primitive-requires-clause-room
primitive-requires-clause-room c =
    λ i l.
    let s = c.ranges.s in let t = c.ranges.t in
    let m : IsMix c.args.s c.args.t c.args.v.now c.args.w.now c.in_ok-mixed.mixed = simp to_z-of_z at c.in_ok-mixed.ensures in
    let k : i < length c.args.v.now = subst (λ (n : ℕ). i < n) m.long l in
    mix_small c.args.s c.args.t (nth c.args.v.now i) (nth c.args.w.now i) (nth c.in_ok-mixed.mixed i) (m.is i k) (c.requires.room i k)

pub primitive-requires-clause-apart : goal.primitive-requires-clause-apart
primitive-requires-clause-apart c =
    let s = c.ranges.s in let t = c.ranges.t in
    let m : IsMix c.args.s c.args.t c.args.v.now c.args.w.now c.in_ok-mixed.mixed = simp to_z-of_z at c.in_ok-mixed.ensures in (
      c.requires.apart.0,
      subst (λ (n : ℕ). c.requires.apart.0 < n) (sym m.long) c.requires.apart.1,
      λ e. c.requires.apart.2
          (sym (m.is c.requires.apart.0 c.requires.apart.1) ∙ e),
    )

pub returns : goal.returns
returns c =
    let s = c.ranges.s in let t = c.ranges.t in
    let m : IsMix c.args.s c.args.t c.args.v.now c.args.w.now c.in_ok-mixed.mixed = simp to_z-of_z at c.in_ok-mixed.ensures in
    if_ok c.primitive.result (λ y. IsPrimitivePart c.in_ok-mixed.mixed y) (λ y. Reduces c.args.s c.args.t c.args.v.now c.args.w.now y)
    (λ y h. reduces c.args.s c.args.t c.args.v.now c.args.w.now c.in_ok-mixed.mixed y m h)
    c.primitive.ensures
