-- Only the entry at the place can be for the package.
use Rattle.std.proofs.Common.{ℕ, List, sym, ap, ◌∙◌, arith}
use Rattle.auction_model.specs.PackageTests.{is_same}
use Rattle.relative_cap.proofs.PlaceLaws.{amount-there, amount-past, amount-absent, lots-read}
use Rattle.relative_cap.proofs.amounts.amount_listed.Goals as goal
use Rattle.relative_cap.proofs.amounts.amount_listed.Goals.{else-place-list-via-then-place-list+else-is_same, else-place-list-via-else-place-list}

pub returns-then-is_same-clause-greatest : goal.returns-then-is_same-clause-greatest
returns-then-is_same-clause-greatest c =
    amount-there c.args.list.now c.args.«package».now c.place_of-place.result c.index-list-place-then-is_same.result c.index-list-place.result
    c.requires.order c.place_of-place.ensures
    c.if-place-list.true (sym c.is_same.ensures ∙ c.if-is_same.true)

pub returns-else-place-list-clause-greatest : goal.returns-else-place-list-clause-greatest
returns-else-place-list-clause-greatest c =
    elim c.else-place-list.branch [
      | else-place-list-via-then-place-list+else-is_same w ↦
          amount-absent c.args.list.now c.args.«package».now c.place_of-place.result c.requires.order c.place_of-place.ensures
          (ap (λ (p : List ℕ). is_same p c.args.«package».now) (lots-read c.args.list.now c.place_of-place.result w.index-list-place.result
          w.if-place-list.true)
          ∙ sym w.is_same.ensures ∙ w.if-is_same.false)
      | else-place-list-via-else-place-list w ↦ amount-past c.args.list.now c.args.«package».now c.place_of-place.result c.place_of-place.ensures
          (omega (arith, w.if-place-list.false))
    ]
