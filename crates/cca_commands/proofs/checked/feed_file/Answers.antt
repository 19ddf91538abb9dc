use Rattle.std.proofs.Common.{refl, ◌∙◌, arith, rules}
use Rattle.cca_base.proofs.Given.{front_some, keeps_more, keeps_still, some_same}
use Rattle.cca_commands.proofs.Feeding.{begins-fed, fed-more, fed-over, fed-some, fed-whole}
use Rattle.cca_commands.proofs.checked.feed_file.Goals as goal

pub returns-in-Ok-eq0-clause-fed : goal.returns-in-Ok-eq0-clause-fed
returns-in-Ok-eq0-clause-fed g c =
    let l = c.loop-checker in
    fed-whole c.args.book.now c.args.weights.now _ _ _ _ _ _ l.at l.invariant.fed _ c.load.new.buf c.in-Ok-eq0.field-0
    (search rules) c.load.ensures.kept c.in-Ok-eq0.ensures.gave
    c.in-Ok-eq0.field-0-test (search rules) l.invariant.within

pub loop-checker-preserved : goal.loop-checker-preserved
loop-checker-preserved g c =
    let l = c.loop-checker in
    record {
      within = search rules;
      room = c.feed.ensures.room ∙ l.invariant.room;
      fed = fed-more c.args.book.now c.args.weights.now _ _ _ _ _ _ l.at l.invariant.fed _ c.load.new.buf c.in-Ok.n
          (search rules) c.load.ensures.kept c.in-Ok.ensures.gave
          _ _ (search rules) (search rules) c.feed.ensures.book c.feed.ensures.weights;
      kept = keeps_more _ _ _ l.invariant.kept c.load.ensures.kept;
      quiet = c.in-Ok.ensures.quiet ∙ l.invariant.quiet;
      appends = c.load.ensures.appends ∙ l.invariant.appends;
    }

pub loop-checker-init : goal.loop-checker-init
loop-checker-init g c = record {
  within = omega arith;
  room = c.start-checker.ensures.room ∙ c.requires.room;
  fed = begins-fed _ _ _ _ _ _ c.start-checker.ensures.stands c.start-checker.ensures.book c.start-checker.ensures.weights;
  kept = keeps_still _;
  quiet = refl;
  appends = refl;
}

pub feed-requires-clause-stands : goal.feed-requires-clause-stands
feed-requires-clause-stands g c =
    let s = c.loop-checker.invariant.fed in
    let long = s.long in
    let within = c.loop-checker.invariant.within in
    (s.text, s.stands, search rules)

pub returns-in-Ok-eq0-clause-kept : goal.returns-in-Ok-eq0-clause-kept
returns-in-Ok-eq0-clause-kept g c = keeps_more _ _ _ c.loop-checker.invariant.kept c.load.ensures.kept

pub returns-then-n-at-clause-kept : goal.returns-then-n-at-clause-kept
returns-then-n-at-clause-kept g c = keeps_more _ _ _ c.loop-checker.invariant.kept c.load.ensures.kept

pub returns-then-n-at-clause-too_long : goal.returns-then-n-at-clause-too_long
returns-then-n-at-clause-too_long g c = λ too_long.
    let l = c.loop-checker in
    fed-over c.args.book.now c.args.weights.now _ _ _ _ _ _ l.at l.invariant.fed _ c.load.new.buf c.in-Ok.n
    (search rules) c.load.ensures.kept c.in-Ok.ensures.gave l.invariant.within (search rules)

pub returns-in-Ok-eq0-clause-some : goal.returns-in-Ok-eq0-clause-some
returns-in-Ok-eq0-clause-some g c =
    let l = c.loop-checker in
    fed-some c.args.book.now c.args.weights.now _ _ _ _ _ _ l.at l.invariant.fed _ c.load.new.buf c.in-Ok-eq0.field-0
    (search rules) c.load.ensures.kept c.in-Ok-eq0.ensures.gave

pub returns-then-n-at-clause-some : goal.returns-then-n-at-clause-some
returns-then-n-at-clause-some g c =
    let l = c.loop-checker in
    fed-some c.args.book.now c.args.weights.now _ _ _ _ _ _ l.at l.invariant.fed _ c.load.new.buf c.in-Ok.n
    (search rules) c.load.ensures.kept c.in-Ok.ensures.gave

pub returns-in-Err-clause-some : goal.returns-in-Err-clause-some
returns-in-Err-clause-some g c = some_same _ _ _ _ c.in-Err.ensures.gave_none (front_some _ _ _ _ c.loop-checker.invariant.fed.front)
