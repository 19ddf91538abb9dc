use Rattle.std.proofs.Common.{◌≡◌, ◌∙◌, ◌+◌, ◌-◌, ap, arith, [], ◌∷◌, append_assoc, append-nil}
use Rattle.auction_model.specs.Place.{left_at, states_of}
use Rattle.auction_model.specs.Market.{sum_after}
use Rattle.auction_model.specs.Menu.{fits_after}
use Rattle.auction_model.specs.Greatest.{IsFirstGreatest}
use Rattle.auction_model.proofs.PlaceLaws.{left_at-whole, states-positive}
use Rattle.auction_model.proofs.TraceLaws.{first-last}
use Rattle.value_table.specs.Counted.{counted_bids, counted}
use Rattle.value_table.proofs.tracing.trace_lines.Goals as goal

pub overflow_sub-place : goal.overflow_sub-place
overflow_sub-place c = omega (arith, c.states-place.ensures.states, states-positive c.supply.result.now)

pub loop-k-init : goal.loop-k-init
loop-k-init c =
    let supply = c.args.lowered.now.book.now.supply in
    let states : c.states-place.result ≡ states_of supply = c.states-place.ensures.states ∙ ap states_of c.supply.ensures.supply in
    record {
      place = omega (arith, states, states-positive supply);
      rest = λ r g. rw c.new-numbers.ensures (rw (states, left_at-whole) at g);
    }

pub loop-k-preserved : goal.loop-k-preserved
loop-k-preserved c =
    let down : c.loop-k.k + 1 - 1 ≡ c.loop-k.k = omega arith in
    record {
      place = c.grid_step-step.ensures.place;
      rest = λ r g. rw (c.in_ok-push.ensures.pushed, append_assoc) (c.loop-k.invariant.rest (c.grid_step-step.result.number ∷ r)
          (rw down at (c.grid_step-step.ensures.walk r g)));
    }

pub returns : goal.returns
returns c =
    let l = c.args.lowered.now in
    let m = counted_bids l in
    let all : c.loop-k.k ≡ m.bidders = omega (arith, c.bidders-k-end.ensures.bidders) in
    let last : IsFirstGreatest (fits_after m c.loop-k.k (left_at l.book.now.supply c.loop-k.place)) (sum_after (counted l) c.loop-k.k) [] =
    rw all (first-last m (counted l) (left_at l.book.now.supply c.loop-k.place)) in
    rw append-nil at (c.loop-k.invariant.rest [] last)
