use Rattle.std.proofs.Common.{ℕ, ◌∷◌, ◌++◌, [], length, sym, ap, subst, ◌∙◌}
use Rattle.cert_stream.specs.Pieces.{between}
use Rattle.cert_stream.specs.Standing.{StandsFor}
use Rattle.cert_stream.specs.Advances.{Advances, IsWithin}
use Rattle.cert_stream.proofs.Runs.{and_one}
use Rattle.cert_stream.proofs.reader.Reader.feed_line.Goals as goal

pub returns-in-Open-clause-stands : goal.returns-in-Open-clause-stands
returns-in-Open-clause-stands c = λ text (items, is). (
  items,
  subst (Advances c.read_on.new.self c.read_on.new.room text items c.args.piece.now c.args.at)
      c.in-Open.is (c.read_on.ensures.advances text items is),
)

pub end_line-requires-clause-ends : goal.end_line-requires-clause-ends
end_line-requires-clause-ends c =
    let text = c.requires.stands.0 in
    let items = c.requires.stands.1.0 in
    let ended = subst (Advances c.read_on.new.self c.read_on.new.room text items c.args.piece.now c.args.at) c.in-Ended.is
    (c.read_on.ensures.advances text items c.requires.stands.1.1) in
    (text ++ between c.args.at c.in-Ended.end c.args.piece.now, items, ended.1)

pub returns-in-Ended-clause-stands : goal.returns-in-Ended-clause-stands
returns-in-Ended-clause-stands c = λ text (items, is).
    let (feed, ends) = subst (Advances c.read_on.new.self c.read_on.new.room text items c.args.piece.now c.args.at) c.in-Ended.is
    (c.read_on.ensures.advances text items is) in
    let within = subst (IsWithin c.args.at (length c.args.piece.now)) c.in-Ended.is c.read_on.ensures.within in
    subst (StandsFor c.end_line.new.self c.read_on.new.room) (ap (λ (x : ℕ). (text ++ between c.args.at c.in-Ended.end c.args.piece.now) ++ x ∷ []) (sym feed)
    ∙ and_one text c.args.piece.now c.args.at c.in-Ended.end within.0 within.1)
    (_, c.end_line.ensures.stands (text ++ between c.args.at c.in-Ended.end c.args.piece.now) items ends)
