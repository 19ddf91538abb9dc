-- A kept list is one of entries in order.
use Rattle.std.proofs.Common.{length, map, List, subst, sym}
use Rattle.std.specs.List.{All}
use Rattle.auction_model.specs.PackageTests.{InOrder}
use Rattle.lots.specs.declared.«package».Bid.{Bid}
use Rattle.relative_cap.specs.Asked.{IsEntry}
use Rattle.relative_cap.specs.OwnRounds.{entry_lots}
use Rattle.bid_desk.proofs.EntryLaws.{kept-entries, kept-order}
use Rattle.bid_desk.proofs.book.raise_to.Goals as goal

pub amount_listed-requires-clause-list : goal.amount_listed-requires-clause-list
amount_listed-requires-clause-list c =
    subst (λ (list : List Bid). All (IsEntry (length c.args.«package».now)) list) (sym c.deref.ensures.value)
    (kept-entries (length c.args.«package».now) c.args.list.now.items c.requires)

pub amount_listed-requires-clause-order : goal.amount_listed-requires-clause-order
amount_listed-requires-clause-order c =
    subst (λ (list : List Bid). InOrder (map entry_lots list)) (sym c.deref.ensures.value)
    (kept-order (length c.args.«package».now) c.args.list.now.items c.requires)
