use Rattle.std.proofs.Common.{◌-◌, ◌^◌, length, pos, refl}
use Rattle.std.proofs.lemmas.List.{map-id}
use Rattle.auction_model.specs.Book.{menu_of, net_of}
use Rattle.value_table.specs.declared.lowered_bids.LoweredBids.{LoweredBids}
use Rattle.value_table.specs.Turned.{in_order, worths_in_order}
use Rattle.value_table.proofs.LineLaws.{line-lowered, zeros-range}
use Rattle.value_table.proofs.NarrowLaws.{plain-narrow}
use Rattle.value_table.proofs.SideLaws.{line-plain}
use Rattle.value_table.proofs.Sizes.{line-room}
use Rattle.value_table.proofs.side_lines.side_line.Goals as goal

pub invariant_of-lowered : goal.invariant_of-lowered
invariant_of-lowered c = record {
  bidders = c.requires.count;
  range = zeros-range c.args.book.now c.args.turned c.args.surplus.now c.kept.ensures c.requires.zeros;
}

pub is_short-requires-clause-below : goal.is_short-requires-clause-below
is_short-requires-clause-below c =
    let book = c.args.book.now in
    let turned = c.args.turned in
    rw (map-id c.args.below.now) (line-lowered (in_order turned (menu_of book)) (worths_in_order turned (length book.bidders) (net_of book))
    c.args.surplus.now (λ j. refl) c.requires.zeros book.supply c.args.j c.args.below.now c.requires.below)

pub put_line-requires-clause-range : goal.put_line-requires-clause-range
put_line-requires-clause-range c = rw (map-id c.args.below.now) at (c.is_short.ensures c.if-is_short.true)

pub put_line-requires-clause-below : goal.put_line-requires-clause-below
put_line-requires-clause-below c =
    let book = c.args.book.now in
    let turned = c.args.turned in
    line-lowered (in_order turned (menu_of book)) (worths_in_order turned (length book.bidders) (net_of book)) c.args.surplus.now
    (λ j. refl) c.requires.zeros book.supply c.args.j c.args.below.now c.requires.below

pub put_line-requires-else-is_short-clause-range : goal.put_line-requires-else-is_short-clause-range
put_line-requires-else-is_short-clause-range c =
    let book = c.args.book.now in
    let turned = c.args.turned in
    let own = line-lowered (in_order turned (menu_of book)) (worths_in_order turned (length book.bidders) (net_of book)) c.args.surplus.now
    (λ j. refl) c.requires.zeros book.supply c.args.j c.args.below.now c.requires.below in
    let l : LoweredBids = record {
      book = c.args.book;
      turned = turned;
      skip = 0;
      den = pos 1;
      surplus = c.args.surplus;
      bidders = c.requires.count;
      range = zeros-range book turned c.args.surplus.now c.kept.ensures c.requires.zeros;
    } in
    let room = line-room l (2 ^ 61) (plain-narrow l c.kept.ensures refl c.requires.zeros) c.args.j c.args.below.now c.requires.bidder.0 c.requires.bidder.1
    own in
    record { numbers = room.numbers; worths = room.worths }

pub put_line-requires-else-is_short-clause-below : goal.put_line-requires-else-is_short-clause-below
put_line-requires-else-is_short-clause-below c =
    let book = c.args.book.now in
    let turned = c.args.turned in
    line-lowered (in_order turned (menu_of book)) (worths_in_order turned (length book.bidders) (net_of book)) c.args.surplus.now
    (λ j. refl) c.requires.zeros book.supply c.args.j c.args.below.now c.requires.below

pub returns-then-is_short-clause-line : goal.returns-then-is_short-clause-line
returns-then-is_short-clause-line c =
    let book = c.args.book.now in
    let turned = c.args.turned in
    line-plain (in_order turned (menu_of book)) (worths_in_order turned (length book.bidders) (net_of book)) c.args.surplus.now book.supply
    (c.args.j - 1) c.put_line.new.line (λ j. refl) c.requires.zeros c.put_line.ensures.line

pub returns-else-is_short-clause-line : goal.returns-else-is_short-clause-line
returns-else-is_short-clause-line c =
    let book = c.args.book.now in
    let turned = c.args.turned in
    line-plain (in_order turned (menu_of book)) (worths_in_order turned (length book.bidders) (net_of book)) c.args.surplus.now book.supply
    (c.args.j - 1) c.put_line-else-is_short.new.line (λ j. refl) c.requires.zeros c.put_line-else-is_short.ensures.line
