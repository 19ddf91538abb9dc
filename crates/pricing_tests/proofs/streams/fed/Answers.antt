use Rattle.std.proofs.Common.{◌≡◌, ◌≤◌, ◌-◌, ◌++◌, List, ℕ, length, take, drop, sym, ap, subst, ◌∙◌, arith, length-take}
use Rattle.std.proofs.Math.Seq.{take-add}
use Rattle.auction_model.specs.Book.{Book}
use Rattle.cert_soundness.specs.Tests.{bidders_of, states}
use Rattle.cert_stream.specs.Rooms.{room_size}
use Rattle.stream_check.specs.Standing.{HasTaken}
use Rattle.pricing_tests.proofs.streams.fed.Goals as goal

pub feed-requires-clause-room : goal.feed-requires-clause-room
feed-requires-clause-room c = subst (λ (b : Book). length c.loop-at.room ≡ room_size (bidders_of b) (states b))
    (sym c.loop-at.invariant.book) c.loop-at.invariant.room

pub feed-requires-clause-stands : goal.feed-requires-clause-stands
feed-requires-clause-stands c = (
  take c.loop-at.at c.args.text.now,
  c.loop-at.invariant.stands,
  omega (
    arith,
    c.loop-at-test.true,
    length-take c.loop-at.at c.args.text.now,
    length-take (c.min-end.result - c.loop-at.at)
        (drop c.loop-at.at c.args.text.now),
  ),
)

joined : (text : List ℕ) (at end : ℕ) → at ≤ end → take at text ++ take (end - at) (drop at text) ≡ take end text
joined text at end le = sym (take-add at (end - at) text) ∙ ap (λ (n : ℕ). take n text) (omega (arith, le))

pub loop-at-preserved : goal.loop-at-preserved
loop-at-preserved c =
    let le : c.loop-at.at ≤ c.min-end.result = omega (arith, c.loop-at-test.true) in
    record {
      stands = subst (HasTaken c.feed.new.self c.feed.new.room) (joined c.args.text.now c.loop-at.at c.min-end.result le)
          (c.feed.ensures.stands (take c.loop-at.at c.args.text.now) c.loop-at.invariant.stands);
      book = c.feed.ensures.book ∙ c.loop-at.invariant.book;
      room = c.feed.ensures.room ∙ c.loop-at.invariant.room;
      within = omega (arith, c.loop-at-test.true);
    }

pub returns-clause-stands : goal.returns-clause-stands
returns-clause-stands c = (take c.loop-at.at c.args.text.now, c.loop-at.invariant.stands)
