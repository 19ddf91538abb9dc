use Rattle.std.proofs.Common.{◌≡◌, ℕ, ◌-◌, ◌≤◌, List, ◌++◌, take, sym, ap, subst, ◌∙◌, arith, append_assoc, length-append, length-take}
use Rattle.std.proofs.Math.Seq.{take-add}
use Rattle.std.proofs.lemmas.List.{take_all}
use Rattle.std.specs.Option.{is_some}
use Rattle.cert_stream.specs.Pieces.{between}
use Rattle.cert_stream.specs.Standing.{StandsFor}
use Rattle.cert_stream.proofs.Standing.{rest_on}
use Rattle.cert_stream.proofs.reader.Reader.feed.Goals as goal

joined : (text piece : List ℕ) (at end : ℕ) → at ≤ end → (text ++ take at piece) ++ between at end piece ≡ text ++ take end piece
joined text piece at end le =
    append_assoc text (take at piece) (between at end piece)
    ∙ ap (λ (l : List ℕ). text ++ l) (sym (take-add at (end - at) piece) ∙ ap (λ (n : ℕ). take n piece) (omega (arith, le)))

pub returns-then-is_some-clause-stands : goal.returns-then-is_some-clause-stands
returns-then-is_some-clause-stands c = λ text is.
    let now = c.loop-at.invariant.stands text is in (
      now.0,
      rest_on c.loop-at.self c.loop-at.room text c.args.piece.now now.0 c.loop-at.at
          (λ none. cc (c.is_some.ensures, c.if-is_some.true, ap is_some none)) now.1,
    )

pub loop-at-preserved : goal.loop-at-preserved
loop-at-preserved c = record {
  stands = λ text is. subst (StandsFor c.feed_line-at.new.self c.feed_line-at.new.room)
      (joined text c.args.piece.now c.loop-at.at c.feed_line-at.result (omega (arith, c.feed_line-at.ensures.from)))
      (c.feed_line-at.ensures.stands (text ++ take c.loop-at.at c.args.piece.now) (c.loop-at.invariant.stands text is));
  shape = c.feed_line-at.ensures.shape ∙ c.loop-at.invariant.shape;
  room = c.feed_line-at.ensures.room ∙ c.loop-at.invariant.room;
  within = c.feed_line-at.ensures.to;
}

pub returns-clause-stands : goal.returns-clause-stands
returns-clause-stands c = λ text is. subst (λ (l : List ℕ). StandsFor c.loop-at.self c.loop-at.room (text ++ l))
    (take_all c.loop-at.at c.args.piece.now (omega arith)) (c.loop-at.invariant.stands text is)

pub feed_line-at-requires-clause-stands : goal.feed_line-at-requires-clause-stands
feed_line-at-requires-clause-stands c = (
  c.requires.stands.0 ++ take c.loop-at.at c.args.piece.now,
  c.loop-at.invariant.stands c.requires.stands.0 c.requires.stands.1,
  omega (arith, c.requires.stands.2, length-append c.requires.stands.0 (take c.loop-at.at c.args.piece.now), length-take c.loop-at.at c.args.piece.now),
)
