use Rattle.std.proofs.Common.{◌≡◌, ◌∙◌, ◌+◌, ◌-◌, ℤ, ap, arith, rules, get_or, length, map, List, [], ◌∷◌, pos, append_assoc, append-nil}
use Rattle.std.proofs.lemmas.Int.{to_z-of_z}
use Rattle.std.proofs.lemmas.List.{length-map}
use Rattle.auction_model.specs.Place.{left_at, states_of}
use Rattle.auction_model.specs.Market.{sum_after}
use Rattle.auction_model.specs.Menu.{fits_after}
use Rattle.auction_model.specs.Greatest.{IsFirstGreatest}
use Rattle.auction_model.proofs.PlaceLaws.{left_at-whole, states-positive}
use Rattle.auction_model.proofs.TraceLaws.{first-last}
use Rattle.value_table.specs.Counted.{counted_bids, counted}
use Rattle.value_table.proofs.TableLines.{entries}
use mir.Val.{SFits}
use mir.Syntax.{w128}
use Rattle.value_table.proofs.tracing.trace_slices.Goals as goal

pub overflow_sub-place : goal.overflow_sub-place
overflow_sub-place g c = omega (arith, c.states-place.ensures.states, states-positive c.supply.result.now)

pub loop-k-init : goal.loop-k-init
loop-k-init g c =
    let supply = c.args.lowered.now.book.now.supply in
    let states : c.states-place.result ≡ states_of supply = c.states-place.ensures.states ∙ ap states_of c.supply.ensures.supply in
    record {
      place = omega (arith, states, states-positive supply);
      rest = λ r g. rw c.new-numbers.ensures (rw (states, left_at-whole) at g);
    }

pub line_at-requires : goal.line_at-requires
line_at-requires g c =
    let lines = c.args.lines.now in
    omega (arith, c.bidders-k-end.ensures.bidders, c.requires.lines, length-map lines (entries g.C.Cell.number))

pub line_at-below-requires : goal.line_at-below-requires
line_at-below-requires g c =
    let lines = c.args.lines.now in
    omega (arith, c.bidders-k-end.ensures.bidders, c.requires.lines, length-map lines (entries g.C.Cell.number))

pub number_at-here-requires : goal.number_at-here-requires
number_at-here-requires g c =
    let number = g.C.Cell.number in
    let line = c.requires.exact c.loop-k.k (omega (arith, c.bidders-k-end.ensures.bidders)) in
    let own = c.line_at.result.now in
    let long : length (map number own) ≡ length own = length-map own number in
    let places : length (map number own) ≡ states_of c.args.lowered.now.book.now.supply = ap (λ (l : List ℤ). length l) c.line_at.ensures ∙ line.places in
    omega (arith, long, places, c.loop-k.invariant.place)

pub next_step-step-requires-clause-here : goal.next_step-step-requires-clause-here
next_step-step-requires-clause-here g c =
    let l = c.args.lowered.now in
    let here = c.number_at-here.result in
    let here_fits : SFits w128 here = search rules in
    let down : c.loop-k.k + 1 - 1 ≡ c.loop-k.k = omega arith in
    let line = c.requires.exact c.loop-k.k (omega (arith, c.bidders-k-end.ensures.bidders)) in
    let is : here ≡ get_or (get_or (map (entries g.C.Cell.number) c.args.lines.now) c.loop-k.k []) c.loop-k.place (pos 0) =
    c.number_at-here.ensures ∙ ap (λ (l : List ℤ). get_or l c.loop-k.place (pos 0)) c.line_at.ensures in
    rw (down, to_z-of_z w128 here here_fits, is) (line.exact c.loop-k.place c.loop-k.invariant.place)

pub next_step-step-requires-clause-below : goal.next_step-step-requires-clause-below
next_step-step-requires-clause-below g c =
    rw c.line_at-below.ensures (c.requires.exact (c.loop-k.k + 1) (omega (arith, c.bidders-k-end.ensures.bidders)))

pub loop-k-preserved : goal.loop-k-preserved
loop-k-preserved g c =
    let down : c.loop-k.k + 1 - 1 ≡ c.loop-k.k = omega arith in
    record {
      place = c.next_step-step.ensures.place;
      rest = λ r g. rw (c.in_ok-push.ensures.pushed, append_assoc) (c.loop-k.invariant.rest (c.next_step-step.result.number ∷ r)
          (rw down at (c.next_step-step.ensures.walk r g)));
    }

pub returns : goal.returns
returns g c =
    let l = c.args.lowered.now in
    let m = counted_bids l in
    let all : c.loop-k.k ≡ m.bidders = omega (arith, c.bidders-k-end.ensures.bidders) in
    let last : IsFirstGreatest (fits_after m c.loop-k.k (left_at l.book.now.supply c.loop-k.place)) (sum_after (counted l) c.loop-k.k) [] =
    rw all (first-last m (counted l) (left_at l.book.now.supply c.loop-k.place)) in
    rw append-nil at (c.loop-k.invariant.rest [] last)
