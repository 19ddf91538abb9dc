-- The place where the search ends is that of the entry, or that before which it can be put in.
use Rattle.std.proofs.Common.{ℕ, List, length, sym, ap, ◌∙◌, arith}
use Rattle.auction_model.specs.PackageTests.{is_same}
use Rattle.relative_cap.proofs.PlaceLaws.{lots-read}
use Rattle.bid_desk.proofs.EntryLaws.{kept-entries, kept-order, slot-taken, slot-free}
use Rattle.bid_desk.proofs.slots.slot_of.Goals as goal
use Rattle.bid_desk.proofs.slots.slot_of.Goals.{else-place-list-via-then-place-list+else-is_same, else-place-list-via-else-place-list}

pub place_of-place-requires-clause-list : goal.place_of-place-requires-clause-list
place_of-place-requires-clause-list c = kept-entries (length c.args.«package».now) c.args.list.now c.requires

pub place_of-place-requires-clause-order : goal.place_of-place-requires-clause-order
place_of-place-requires-clause-order c = kept-order (length c.args.«package».now) c.args.list.now c.requires

pub is_same-requires : goal.is_same-requires
is_same-requires c =
    (kept-entries (length c.args.«package».now) c.args.list.now c.requires c.place_of-place.result c.index-list-place.result c.if-place-list.true).held.count

pub returns-then-is_same : goal.returns-then-is_same
returns-then-is_same c =
    slot-taken (length c.args.«package».now) c.args.list.now c.args.«package».now c.place_of-place.result c.requires c.place_of-place.ensures
    c.if-place-list.true
    (ap (λ (p : List ℕ). is_same p c.args.«package».now) (lots-read c.args.list.now c.place_of-place.result c.index-list-place.result c.if-place-list.true)
    ∙ sym c.is_same.ensures ∙ c.if-is_same.true)

pub returns-else-place-list : goal.returns-else-place-list
returns-else-place-list c =
    elim c.else-place-list.branch [
      | else-place-list-via-then-place-list+else-is_same w ↦
          slot-free (length c.args.«package».now) c.args.list.now c.args.«package».now c.place_of-place.result c.requires c.place_of-place.ensures
          (λ inside. ap (λ (p : List ℕ). is_same p c.args.«package».now)
          (lots-read c.args.list.now c.place_of-place.result w.index-list-place.result w.if-place-list.true)
          ∙ sym w.is_same.ensures ∙ w.if-is_same.false)
      | else-place-list-via-else-place-list w ↦
          slot-free (length c.args.«package».now) c.args.list.now c.args.«package».now c.place_of-place.result c.requires c.place_of-place.ensures
          (λ inside. absurd (omega (arith, inside, w.if-place-list.false)))
    ]
