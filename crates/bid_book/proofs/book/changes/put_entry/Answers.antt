use Rattle.std.proofs.Common.{◌<◌, length, map, sym, ◌∙◌, arith}
use Rattle.std.proofs.lemmas.Bool.{false≢true}
use Rattle.std.proofs.lemmas.List.{length-map}
use Rattle.bid_book.specs.Fields.{bid_value}
use Rattle.bid_book.proofs.PlaceLaws.{place-there}
use Rattle.bid_book.proofs.SettleLaws.{put-set, put-insert}
use Rattle.bid_book.proofs.book.changes.put_entry.Goals as goal

pub returns-then-is_there-clause-put : goal.returns-then-is_there-clause-put
returns-then-is_there-clause-put c =
    let at = rw c.deref.ensures.value at c.place_of-place.ensures in
    let there = rw c.deref-2.ensures.value at (c.is_there.ensures.0 c.if-is_there.true) in
    put-set c.args.bids.now.items c.set_entry.new.bids.items c.args.entry c.place_of-place.result at there c.set_entry.ensures

pub returns-in_err-add_entry-clause-known : goal.returns-in_err-add_entry-clause-known
returns-in_err-add_entry-clause-known c = λ i inside own.
    let old = c.args.bids.now.items in
    let at = rw c.deref.ensures.value at c.place_of-place.ensures in
    let there = place-there (map bid_value old) c.args.entry.bid.package c.place_of-place.result i c.requires.order
    at (omega (arith, inside, length-map old bid_value)) own in
    let here : c.place_of-place.result < length old = omega (arith, there.0, length-map old bid_value) in
    let yes = c.is_there.ensures.1 (rw c.deref-2.ensures.value (here, there.1)) in
    absurd (false≢true (sym c.if-is_there.false ∙ yes))

pub returns-clause-put : goal.returns-clause-put
returns-clause-put c =
    let at = rw c.deref.ensures.value at c.place_of-place.ensures in
    put-insert c.args.bids.now.items c.add_entry.new.bids.items c.args.entry c.place_of-place.result at
    (λ there. absurd (false≢true (sym c.if-is_there.false ∙ c.is_there.ensures.1 (rw c.deref-2.ensures.value there))))
    c.in_ok-add_entry.ensures.put
