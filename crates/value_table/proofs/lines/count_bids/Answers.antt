use Rattle.std.proofs.Common.{◌≡◌, ◌∙◌, ◌≤◌, ◌+◌, ◌-◌, sym, refl, arith, rules, length, map}
use Rattle.std.proofs.lemmas.Int.{to_z-of_z}
use Rattle.std.proofs.lemmas.List.{length-map}
use Rattle.auction_model.proofs.BidderLaws.{bidder-all, bidder-none}
use Rattle.value_table.proofs.CoarseBlocks.{units-kept}
use Rattle.value_table.proofs.CornerLaws.{line-grows}
use Rattle.value_table.proofs.DownLaws.{bidder_from-none, bidder_from-more, bidder_from-beaten, bidder_from-all}
use Rattle.value_table.specs.Counted.{counted_bids, counted, IsNeedless}
use mir.Val.{SFits}
use mir.Syntax.{w128}
use Rattle.value_table.proofs.lines.count_bids.Goals as goal

pub loop-i-init : goal.loop-i-init
loop-i-init g c =
    let l = c.args.lowered.now in
    let number = g.C.Cell.number in
    let below = c.args.below.now in
    let line = c.args.line.now in
    let places : length (map number line) ≡ length (map number below) = length-map line number ∙ c.requires.places ∙ sym (length-map below number) in
    record {
      line = rw c.bids-i.ensures.bids (bidder_from-none (counted_bids l) (counted l) l.book.now.supply c.args.j c.requires.bidder.0 (map number line)
          (bidder-none (counted_bids l) (counted l) l.book.now.supply c.args.j c.requires.bidder.0 (map number below) (map number line)
          (counted l c.args.j 0) refl refl
          c.requires.below places (λ s h. c.requires.line s (omega (arith, h, length-map below number)))));
      units = c.put_units-shift.ensures;
    }

pub narrowed-worth-requires-clause-size : goal.narrowed-worth-requires-clause-size
narrowed-worth-requires-clause-size g c =
    let l = c.args.lowered.now in
    let known : c.loop-i.i - 1 + 1 ≤ (counted_bids l).bids c.args.j = omega (arith, c.loop-i-test.true, c.bids-i.ensures.bids) in
    let wide : SFits w128 c.worth.result = search rules in
    rw (to_z-of_z w128 c.worth.result wide, c.worth.ensures.worth) (c.requires.range.worths (c.loop-i.i - 1 + 1) known)

pub narrowed-worth-requires-clause-sign : goal.narrowed-worth-requires-clause-sign
narrowed-worth-requires-clause-sign g c =
    let wide : SFits w128 c.worth.result = search rules in
    rw (to_z-of_z w128 c.worth.result wide, c.worth.ensures.worth) (c.is_needless.ensures.sign c.if-is_needless.false)

pub loop-i-preserved : goal.loop-i-preserved
loop-i-preserved g c =
    let l = c.args.lowered.now in
    let number = g.C.Cell.number in
    let i = c.loop-i.i in
    let up : i - 1 + 1 ≡ i = omega (arith, c.loop-i-test.true) in
    let wide : SFits w128 c.worth.result = search rules in
    let worth : number c.narrowed-worth.result ≡ counted l c.args.j (i - 1 + 1) =
    c.narrowed-worth.ensures ∙ to_z-of_z w128 c.worth.result wide ∙ c.worth.ensures.worth in
    let made = c.add_bid-more.new.line in
    let places : length (map number made) ≡ length (map number c.loop-i.line) = length-map made number ∙ c.add_bid-more.auto.line
    ∙ sym (length-map c.loop-i.line number) in
    record {
      line = bidder_from-more (counted_bids l) (counted l) l.book.now.supply c.args.j c.requires.bidder.0 i (omega (arith, c.loop-i-test.true))
          (omega (arith, c.loop-i-test.true, c.bids-i.ensures.bids)) (map number c.args.below.now)
          (map number c.loop-i.line) (map number made)
          c.requires.below c.loop-i.invariant.line places
          (λ s h. rw up at (simp (c.supply.ensures.supply, c.bid-own.ensures.lots, worth) at (c.add_bid-more.ensures.line s
          (omega (arith, h, length-map c.loop-i.line number)))));
      units = units-kept number c.loop-i.shift c.shift_after-shift.result made c.args.below.now c.add_bid-more.new.low c.put_units-shift.new.high c.shift_after-shift.ensures
          c.add_bid-more.ensures.units;
    }

pub returns : goal.returns
returns g c =
    let l = c.args.lowered.now in
    let line = map g.C.Cell.number c.loop-i.line in
    let all : c.loop-i.i ≡ 0 = omega arith in
    bidder-all (counted_bids l) (counted l) l.book.now.supply c.args.j c.requires.bidder.0 line c.requires.bidder.1
    (bidder_from-all (counted_bids l) (counted l) l.book.now.supply c.args.j c.requires.bidder.0 line (rw all at c.loop-i.invariant.line))

pub loop-i-preserved-then-is_needless : goal.loop-i-preserved-then-is_needless
loop-i-preserved-then-is_needless g c =
    let l = c.args.lowered.now in
    let i = c.loop-i.i in
    let up : i - 1 + 1 ≡ i = omega (arith, c.loop-i-test.true) in
    let beaten : IsNeedless l c.args.j i = rw up at (c.is_needless.ensures.needless c.if-is_needless.true) in
    record {
      line = bidder_from-beaten (counted_bids l) (counted l) l.book.now.supply c.args.j c.requires.bidder.0 i (omega (arith, c.loop-i-test.true))
          (map g.C.Cell.number c.loop-i.line) beaten c.loop-i.invariant.line;
      units = c.loop-i.invariant.units;
    }

pub add_bid-more-requires-clause-below_grows : goal.add_bid-more-requires-clause-below_grows
add_bid-more-requires-clause-below_grows g c =
    let l = c.args.lowered.now in
    rw c.supply.ensures.supply
    (line-grows (counted_bids l) (counted l) l.book.now.supply c.args.j (map g.C.Cell.number c.args.below.now) c.requires.below)

pub add_bid-more-requires-clause-line_grows : goal.add_bid-more-requires-clause-line_grows
add_bid-more-requires-clause-line_grows g c = rw c.supply.ensures.supply c.loop-i.invariant.line.grows

pub add_bid-more-requires-clause-lines : goal.add_bid-more-requires-clause-lines
add_bid-more-requires-clause-lines g c =
    let l = c.args.lowered.now in
    let number = g.C.Cell.number in
    let known : c.loop-i.i - 1 + 1 ≤ (counted_bids l).bids c.args.j = omega (arith, c.loop-i-test.true, c.bids-i.ensures.bids) in
    let wide : SFits w128 c.worth.result = search rules in
    record {
      line = rw c.supply.ensures.supply (sym (length-map c.loop-i.line number) ∙ c.loop-i.invariant.line.places);
      places = rw c.supply.ensures.supply (sym (length-map c.args.below.now number) ∙ c.requires.below.places);
      worth = rw (c.narrowed-worth.ensures, to_z-of_z w128 c.worth.result wide, c.worth.ensures.worth) (c.requires.range.worths (c.loop-i.i - 1 + 1) known);
      sizes = c.requires.range.numbers;
    }
