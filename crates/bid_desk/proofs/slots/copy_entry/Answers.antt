-- The entry is overwritten, or put after those before the place.
use Rattle.std.proofs.Common.{◌<◌, length, rules}
use Rattle.bid_desk.proofs.CopyLaws.{bid_of, bid-same, copied-behind, copied-over}
use Rattle.bid_desk.proofs.slots.copy_entry.Goals as goal

pub returns-then-categories : goal.returns-then-categories
returns-then-categories c =
    let inside : c.args.place < length c.args.list.now.items = search rules in
    copied-over c.args.list.now.items c.args.place (bid_of c.copy_from.new.self c.args.bid.now.amount) c.args.bid.now inside
    (bid-same c.copy_from.new.self c.args.bid.now c.copy_from.ensures)

pub returns : goal.returns
returns c =
    copied-behind c.args.list.now.items c.truncate.new.self.items c.push.new.self.items c.args.place
    (bid_of c.copied.result c.args.bid.now.amount) c.args.bid.now c.requires
    c.truncate.ensures.items c.in_ok-push.ensures.items (bid-same c.copied.result c.args.bid.now c.copied.ensures)
