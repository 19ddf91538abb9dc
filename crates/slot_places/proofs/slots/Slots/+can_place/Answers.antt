use Rattle.std.proofs.Common.{◌≡◌, ◌∙◌, ◌+◌, ◌-◌, suc, sym, arith, subst, IsTrue, IsFalse}
use Rattle.std.proofs.lemmas.Bool.{false≢true}
use Rattle.slot_places.specs.Board.{board_of, can_place}
use Rattle.slot_places.specs.SetTable.{holds}
use Rattle.slot_places.proofs.SameLaws.{slots-ask}
use Rattle.slot_places.proofs.NextLaws.{none-more, none-placed, next-by, places-by, small-by, placed-by}
use Rattle.slot_places.proofs.slots.Slots.+can_place.Goals as goal

pub can_place-requires : goal.can_place-requires
can_place-requires t c = (
  omega arith,
  (
    c.requires.known,
    small-by (board_of c.args.self.now) (slots-ask c.args.self.now 0) c.args.numbers.now (c.args.left - 1) c.args.set
        (c.loop-k.k + 1) c.weight.result c.weight.ensures
        (c.can_follow.ensures.0 c.if-not-can_follow.false) c.requires.set,
  ),
)

pub returns-then-can_place : goal.returns-then-can_place
returns-then-can_place t c =
    let b = board_of c.args.self.now in
    let up : suc (c.args.left - 1) ≡ c.args.left = omega arith in
    let next = next-by b (slots-ask c.args.self.now 0) c.args.numbers.now (c.args.left - 1) c.args.set (c.loop-k.k + 1) c.weight.result c.weight.ensures
    (c.can_follow.ensures.0 c.if-not-can_follow.false) (sym c.can_place.ensures ∙ c.if-can_place.true) in
    sym (subst (λ n. IsTrue (can_place b c.args.numbers.now n (holds c.args.set))) up
    (placed-by b (slots-ask c.args.self.now 0) c.args.numbers.now (c.args.left - 1) c.args.set (c.loop-k.k + 1) next))

pub loop-k-preserved : goal.loop-k-preserved
loop-k-preserved t c =
    none-more (board_of c.args.self.now) c.args.numbers.now (c.args.left - 1) (holds c.args.set) c.loop-k.k c.loop-k.invariant
    (λ next. false≢true (sym c.if-can_place.false ∙ (c.can_place.ensures ∙ places-by (board_of c.args.self.now)
    (slots-ask c.args.self.now 0) c.args.numbers.now (c.args.left - 1) c.args.set (c.loop-k.k + 1) c.weight.result c.weight.ensures next)))

pub returns : goal.returns
returns t c =
    let b = board_of c.args.self.now in
    let up : suc (c.args.left - 1) ≡ c.args.left = omega arith in
    sym (subst (λ n. IsFalse (can_place b c.args.numbers.now n (holds c.args.set))) up
    (none-placed b c.args.numbers.now (c.args.left - 1) (holds c.args.set) c.loop-k.k c.loop-k.invariant (omega arith)))
