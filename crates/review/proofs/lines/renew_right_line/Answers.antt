use Rattle.std.proofs.Common.{◌≡◌, ◌≢◌, ◌+◌, ◌-◌, ◌<◌, ℕ, List, ℤ, [], length, drop, get_or, set, sym, ap, subst, ◌∙◌, arith, Vec, Global}
use Rattle.value_table.specs.SideLines.{IsRightLine}
use Rattle.std.specs.Vec.{with_items}
use Rattle.std.proofs.lemmas.List.{take_at}
use Rattle.review.specs.ReviewValue.{AreRightLines, lines_of}
use Rattle.review.proofs.LineSets.{count-of, lines-set, read-other, read-own, right-set}
use Rattle.review.proofs.lines.renew_right_line.Goals as goal

pub narrow_right_line-requires-clause-after : goal.narrow_right_line-requires-clause-after
narrow_right_line-requires-clause-after c =
    let lines = c.args.lines.now.items in
    let k = c.args.k in
    let apart : k + 1 ≢ k = λ e. absurd (omega (arith, e)) in
    let inside : k + 1 < length lines = omega (arith, c.requires.bidder, c.requires.lines.full.count, count-of lines k) in
    let is : c.deref.result.now ≡ get_or (lines_of lines) (k + 1) [] = c.deref.ensures.value ∙ read-other lines k c.replace-line.new.dest c.index.result.now
    (k + 1) apart inside c.index.ensures in
    subst (λ (l : List ℤ). IsRightLine c.args.book.now (k + 1) l) (sym is) (c.requires.lines.exact (k + 1) (omega arith) (omega (arith, c.requires.bidder)))

pub narrow_right_line-requires-clause-places : goal.narrow_right_line-requires-clause-places
narrow_right_line-requires-clause-places c =
    let lines = c.args.lines.now.items in
    let k = c.args.k in
    let inside : k < length lines = omega (arith, c.requires.bidder, c.requires.lines.full.count, count-of lines k) in
    let is : c.deref_mut.result.now ≡ get_or (lines_of lines) k [] =
    c.deref_mut.ensures.value ∙ ap (λ (v : Vec ℤ Global). v.items) c.replace-line.ensures.value ∙ read-own lines k c.index_mut.result.now inside
    c.index_mut.ensures.value in
    ap (λ (l : List ℤ). length l) is ∙ c.requires.lines.full.places k (omega (arith, c.requires.bidder))

pub returns-clause-lines : goal.returns-clause-lines
returns-clause-lines c =
    let lines = c.args.lines.now.items in
    let k = c.args.k in
    let line = c.narrow_right_line.new.line in
    let put = with_items c.replace-line.result line in
    let long : length line ≡ c.replace-line.result.len = c.narrow_right_line.auto.line ∙ c.deref_mut.ensures.len in
    let same : put.items ≡ line = take_at line (drop (length line) c.replace-line.result.items) c.replace-line.result.len long in
    let down : k + 1 - 1 ≡ k = omega arith in
    let own : IsRightLine c.args.book.now k line = subst (λ (n : ℕ). IsRightLine c.args.book.now n line) down c.narrow_right_line.ensures.line in
    let made = right-set c.args.book.now k (lines_of lines) line (omega (arith, c.requires.bidder)) c.requires.lines own in
    subst (AreRightLines c.args.book.now k) (sym (lines-set lines k c.replace-line.new.dest put ∙ ap (set (lines_of lines) k) same)) made
