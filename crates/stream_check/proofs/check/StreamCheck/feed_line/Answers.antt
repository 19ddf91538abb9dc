use Rattle.std.proofs.Common.{ℕ, ◌∷◌, ◌++◌, [], length, sym, ap, subst, ◌∙◌}
use Rattle.cert_stream.specs.Pieces.{between}
use Rattle.cert_stream.specs.Advances.{Advances, IsWithin}
use Rattle.cert_stream.proofs.Runs.{and_one}
use Rattle.cert_stream.proofs.Standing.{reads_on}
use Rattle.stream_check.specs.Standing.{HasTaken, StandsWith}
use Rattle.stream_check.proofs.CheckLaws.{stands-open, ends-line}
use Rattle.stream_check.proofs.check.StreamCheck.feed_line.Goals as goal

pub returns-in-Open-clause-stands : goal.returns-in-Open-clause-stands
returns-in-Open-clause-stands c = λ text (set, (items, is)).
    let r = c.args.self.now.reader in
    let now = subst (StandsWith c.args.self.now c.args.room.now text items) c.requires.reading is in
    let behind = reads_on r.shape.bidders r.shape.states r.due r.part r.place r.read c.args.room.now text items r.stop c.requires.reading now.0 in
    let more = subst (Advances c.read_on.new.self c.read_on.new.room text items c.args.piece.now c.args.at) c.in-Open.is
    (c.read_on.ensures.advances text items behind) in
    stands-open c.args.self.now set c.args.room.now c.read_on.new.room text (text ++ between c.args.at c.in-Open.end c.args.piece.now) items
    c.read_on.new.self c.read_on.ensures.shape c.read_on.ensures.due c.read_on.ensures.others now.0 now.1 more

pub end_line-requires-clause-ends : goal.end_line-requires-clause-ends
end_line-requires-clause-ends c =
    let text = c.requires.stands.0 in
    let (set, (items, is)) = c.requires.stands.1 in
    let r = c.args.self.now.reader in
    let now = subst (StandsWith c.args.self.now c.args.room.now text items) c.requires.reading is in
    let behind = reads_on r.shape.bidders r.shape.states r.due r.part r.place r.read c.args.room.now text items r.stop c.requires.reading now.0 in
    let ended = subst (Advances c.read_on.new.self c.read_on.new.room text items c.args.piece.now c.args.at) c.in-Ended.is
    (c.read_on.ensures.advances text items behind) in (
      text ++ between c.args.at c.in-Ended.end c.args.piece.now,
      items,
      ends-line c.args.self.now set c.args.room.now c.read_on.new.room text (text ++ between c.args.at c.in-Ended.end c.args.piece.now) items
          c.read_on.new.self c.read_on.ensures.shape c.read_on.ensures.due c.read_on.ensures.others now.0 now.1 ended.1,
    )

pub returns-in-Ended-clause-stands : goal.returns-in-Ended-clause-stands
returns-in-Ended-clause-stands c = λ text (set, (items, is)).
    let r = c.args.self.now.reader in
    let now = subst (StandsWith c.args.self.now c.args.room.now text items) c.requires.reading is in
    let behind = reads_on r.shape.bidders r.shape.states r.due r.part r.place r.read c.args.room.now text items r.stop c.requires.reading now.0 in
    let (feed, ends) = subst (Advances c.read_on.new.self c.read_on.new.room text items c.args.piece.now c.args.at) c.in-Ended.is
    (c.read_on.ensures.advances text items behind) in
    let within = subst (IsWithin c.args.at (length c.args.piece.now)) c.in-Ended.is c.read_on.ensures.within in
    subst (HasTaken c.end_line.new.self c.read_on.new.room) (ap (λ (x : ℕ). (text ++ between c.args.at c.in-Ended.end c.args.piece.now) ++ x ∷ []) (sym feed)
    ∙ and_one text c.args.piece.now c.args.at c.in-Ended.end within.0 within.1)
    (c.end_line.ensures.stands (text ++ between c.args.at c.in-Ended.end c.args.piece.now) items
    (ends-line c.args.self.now set c.args.room.now c.read_on.new.room text (text ++ between c.args.at c.in-Ended.end c.args.piece.now) items
    c.read_on.new.self c.read_on.ensures.shape c.read_on.ensures.due c.read_on.ensures.others now.0 now.1 ends))
