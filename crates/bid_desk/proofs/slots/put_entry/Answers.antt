-- The amount is overwritten, or an entry put in at its place.
use Rattle.std.proofs.Common.{◌≡◌, ◌∙◌, List, ℕ, map, ap, set, subst}
use Rattle.lots.specs.declared.«package».Bid.{Bid}
use Rattle.relative_cap.specs.OwnRounds.{bid_value}
use Rattle.bid_desk.specs.Differences.{SetsAmount}
use Rattle.bid_desk.specs.Slots.{IsTakenAt, IsFreeAt}
use Rattle.bid_desk.proofs.DifferenceLaws.{own-lots, sets-amount}
use Rattle.bid_desk.proofs.EntryLaws.{put-taken, put-free}
use Rattle.bid_desk.proofs.slots.put_entry.Goals as goal

pub returns-in-Taken-clause-put : goal.returns-in-Taken-clause-put
returns-in-Taken-clause-put c =
    let taken : IsTakenAt (map bid_value c.args.list.now.items) c.args.«package».now c.in-Taken.place
    = subst (λ (xs : List Bid). IsTakenAt (map bid_value xs) c.args.«package».now c.in-Taken.place) c.deref.ensures.value c.in-Taken.ensures in
    put-taken c.args.list.now.items c.args.«package».now _ c.args.amount c.in-Taken.place taken
    (own-lots c.args.list.now.items c.args.«package».now c.in-Taken.place c.index_mut.result.now taken c.index_mut.ensures.value)

pub returns-in-Taken-clause-set : goal.returns-in-Taken-clause-set
returns-in-Taken-clause-set c = λ place is.
    let taken : IsTakenAt (map bid_value c.args.list.now.items) c.args.«package».now c.in-Taken.place
    = subst (λ (xs : List Bid). IsTakenAt (map bid_value xs) c.args.«package».now c.in-Taken.place) c.deref.ensures.value c.in-Taken.ensures in
    let same : c.in-Taken.place ≡ place = cc in
    subst (λ (n : ℕ). SetsAmount (map bid_value c.args.list.now.items) n c.args.amount
    (map bid_value (set c.args.list.now.items c.in-Taken.place (record { «package» = c.index_mut.result.now.«package»; amount = c.args.amount })))) same
    (sets-amount c.args.list.now.items c.in-Taken.place c.args.amount c.index_mut.result.now taken.inside c.index_mut.ensures.value)

pub returns-in_ok-insert-in-Free-clause-put : goal.returns-in_ok-insert-in-Free-clause-put
returns-in_ok-insert-in-Free-clause-put c =
    ap (map bid_value) c.in_ok-insert-in-Free.ensures.items
    ∙ put-free c.args.list.now.items c.args.«package».now c.copied-package.result c.args.amount c.in-Free.place
    (subst (λ (xs : List Bid). IsFreeAt (map bid_value xs) c.args.«package».now c.in-Free.place) c.deref.ensures.value c.in-Free.ensures)
    c.copied-package.ensures
