-- The entry is taken out at its place.
use Rattle.std.proofs.Common.{◌∙◌, List, map, ap}
use Rattle.auction_model.specs.Book.{BookBid}
use Rattle.auction_model.specs.Entries.{without_entry}
use Rattle.relative_cap.specs.OwnRounds.{bid_value}
use Rattle.bid_desk.specs.Lists.{Lists, lists_with}
use Rattle.bid_desk.proofs.EntryLaws.{removed-by}
use Rattle.bid_desk.proofs.lists.BidderLists.remove.Goals as goal

pub returns-in-Taken : goal.returns-in-Taken
returns-in-Taken c =
    ap (λ (drafts : List BookBid). lists_with drafts (map bid_value c.self.inside.submitted.items))
    (removed-by c.self.inside.drafts.items c.deref.result.now c.remove.new.self.items c.args.«package».now c.in-Taken.place c.deref.ensures.value
    c.in-Taken.ensures c.remove.ensures.items)
    ∙ ap (λ (l : Lists). lists_with (without_entry c.args.«package».now l.drafts) l.submitted) c.self.view_is
