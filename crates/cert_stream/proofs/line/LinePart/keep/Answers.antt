use Rattle.std.proofs.Common.{◌≡◌, ◌+◌, Bool, [], ◌∷◌, ◌++◌, length, set, sym, ap, FitsSigned, rules, ◌∙◌, arith}
use Rattle.std.specs.Prelude.{◌||◌}
use Rattle.std.specs.Int.{w128}
use Rattle.std.proofs.lemmas.Int.{to_z-of_z}
use Rattle.cert_stream.specs.Forms.{numbers_of, MayFollow}
use Rattle.cert_stream.proofs.Following.{follows, has_to_follow, within_room, has_room, keeps_more, kept_now}
use Rattle.cert_stream.proofs.line.LinePart.keep.Goals as goal
use Rattle.cert_stream.proofs.line.LinePart.keep.Goals.{then-self, else-self}

pub may_follow-requires : goal.may_follow-requires
may_follow-requires c = omega (arith, within_room c.args.form c.requires.some.0 c.requires.some.3, c.requires.some.2.many, c.requires.room)

pub returns-then-not-may_follow-clause-accepts : goal.returns-then-not-may_follow-clause-accepts
returns-then-not-may_follow-clause-accepts c = λ ns z keeps begins kept more fit.
    let yes = (c.may_follow.ensures ns z c.args.self.now.beyond keeps begins kept).1 (has_to_follow (numbers_of c.args.form) ns z more fit) in
    cc (yes, c.if-not-may_follow.true)

pub store-self-requires : goal.store-self-requires
store-self-requires c =
    let s = c.requires.some in
    has_room c.args.form s.0 s.1 c.args.self.now.count (length c.args.out.now) s.3
    ((c.may_follow.ensures s.0 s.1 c.args.self.now.beyond s.2 s.3 s.4).0 c.if-not-may_follow.false) s.2.many c.requires.room

pub returns-clause-accepts : goal.returns-clause-accepts
returns-clause-accepts c = λ ns z keeps begins kept.
    let next : MayFollow (numbers_of c.args.form) ns z = (c.may_follow.ensures ns z c.args.self.now.beyond keeps begins kept).0 c.if-not-may_follow.false in
    let f : FitsSigned w128 c.args.kept.number = search rules in
    let stored : c.store-self.new.out ≡ set c.args.out.now c.args.self.now.count c.args.kept.number = simp to_z-of_z at c.store-self.ensures.stored in
    let flag : c.if-self.self ≡ c.args.self.now.beyond || c.args.kept.beyond =
    elim c.if-self.branch [
      | then-self w ↦ w.self-is ∙ w.if-self.true ∙ sym (ap (λ (b : Bool). b || c.args.kept.beyond) w.if-self.true)
      | else-self w ↦ w.self-is ∙ sym (ap (λ (b : Bool). b || c.args.kept.beyond) w.if-self.false)
    ] in
    let more = keeps_more ns c.args.out.now c.args.self.now.count c.args.self.now.beyond c.args.kept z keeps kept
    (has_room c.args.form ns z c.args.self.now.count (length c.args.out.now) begins next keeps.many c.requires.room) in (
      kept_now (ns ++ z ∷ []) (set c.args.out.now c.args.self.now.count c.args.kept.number) c.store-self.new.out
          (c.args.self.now.count + 1) c.store-self.result (c.args.self.now.beyond || c.args.kept.beyond) c.if-self.self more (sym stored)
          (sym c.store-self.ensures.next) (sym flag),
      follows (numbers_of c.args.form) ns z begins next,
    )
