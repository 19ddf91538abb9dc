use Rattle.std.proofs.Common.{◌≡◌, ◌∙◌, ◌+◌, suc, sym, arith, subst, IsFalse}
use Rattle.std.proofs.lemmas.Bool.{false≢true}
use Rattle.slot_places.specs.Board.{board_of, can_place}
use Rattle.slot_places.specs.SetTable.{holds}
use Rattle.slot_places.proofs.SameLaws.{slots-ask}
use Rattle.slot_places.proofs.NextLaws.{none-more, none-placed, next-by, places-by, small-by}
use Rattle.slot_places.proofs.slots.Slots.next_bidder.Goals as goal

pub can_place-requires-clause-set : goal.can_place-requires-clause-set
can_place-requires-clause-set c =
    small-by (board_of c.args.self.now) (slots-ask c.args.self.now 0) c.args.numbers.now c.args.left c.args.set
    (c.loop-k.k + 1) c.weight.result c.weight.ensures
    (c.can_follow.ensures.0 c.if-not-can_follow.false) c.requires.set

pub returns-then-can_place-clause-some : goal.returns-then-can_place-clause-some
returns-then-can_place-clause-some c = record {
  next = next-by (board_of c.args.self.now) (slots-ask c.args.self.now 0) c.args.numbers.now c.args.left c.args.set
      (c.loop-k.k + 1) c.weight.result c.weight.ensures
      (c.can_follow.ensures.0 c.if-not-can_follow.false) (sym c.can_place.ensures ∙ c.if-can_place.true);
  first = λ h low next. c.loop-k.invariant h (omega (arith, low)) next;
}

pub loop-k-preserved : goal.loop-k-preserved
loop-k-preserved c =
    none-more (board_of c.args.self.now) c.args.numbers.now c.args.left (holds c.args.set) c.loop-k.k c.loop-k.invariant
    (λ next. false≢true (sym c.if-can_place.false ∙ (c.can_place.ensures ∙ places-by (board_of c.args.self.now)
    (slots-ask c.args.self.now 0) c.args.numbers.now c.args.left c.args.set (c.loop-k.k + 1) c.weight.result c.weight.ensures next)))

pub returns-clause-none : goal.returns-clause-none
returns-clause-none c =
    let up : suc c.args.left ≡ c.args.left + 1 = omega arith in
    subst (λ n. IsFalse (can_place (board_of c.args.self.now) c.args.numbers.now n (holds c.args.set))) up
    (none-placed (board_of c.args.self.now) c.args.numbers.now c.args.left (holds c.args.set) c.loop-k.k c.loop-k.invariant (omega arith))
