use Rattle.std.proofs.Common.{◌-◌, ◌≤◌, ◌∙◌, ℕ, ℤ, List, length, sym, ap, subst, arith, rules}
use Rattle.std.proofs.lemmas.Int.{to_z-of_z}
use Rattle.auction_model.specs.Place.{states_of}
use Rattle.review.specs.Reviewed.{AreBelow}
use Rattle.review.proofs.SizeLaws.{left-line, left-small, right-line, right-small}
use mir.Val.{SFits}
use mir.Syntax.{w128}
use Rattle.review.proofs.keeping.is_beaten.Goals as goal

pub are_below-requires-clause-before : goal.are_below-requires-clause-before
are_below-requires-clause-before c =
    let sides = c.renew_right.ensures.lines in
    let low : c.args.j - 1 ≤ c.renew_right.new.self.left_to = omega (arith, c.renew_left.ensures.exact, c.renew_right.ensures.left) in
    let line = left-line c.args.book.now c.renew_right.new.self (c.args.j - 1) c.index.result.now c.deref.result.now
    (omega (arith, c.requires.bid.known)) low c.index.ensures c.deref.ensures.value sides in
    line.places ∙ ap states_of (sym c.supply.ensures.supply)

pub are_below-requires-clause-after : goal.are_below-requires-clause-after
are_below-requires-clause-after c =
    let sides = c.renew_right.ensures.lines in
    let line = right-line c.args.book.now c.renew_right.new.self c.args.j c.index-2.result.now c.deref-2.result.now c.requires.bid.known
    c.renew_right.ensures.exact c.index-2.ensures c.deref-2.ensures.value sides in
    line.places ∙ ap states_of (sym c.supply.ensures.supply)

pub are_below-requires-clause-before_sizes : goal.are_below-requires-clause-before_sizes
are_below-requires-clause-before_sizes c =
    let sides = c.renew_right.ensures.lines in
    let inside : c.args.j - 1 ≤ length c.args.book.now.bidders = omega (arith, c.requires.bid.known) in
    let low : c.args.j - 1 ≤ c.renew_right.new.self.left_to = omega (arith, c.renew_left.ensures.exact, c.renew_right.ensures.left) in
    let line = left-line c.args.book.now c.renew_right.new.self (c.args.j - 1) c.index.result.now c.deref.result.now inside low c.index.ensures
    c.deref.ensures.value sides in
    left-small c.args.book.now (c.args.j - 1) c.deref.result.now c.supply.ensures.kept inside line

pub are_below-requires-clause-after_sizes : goal.are_below-requires-clause-after_sizes
are_below-requires-clause-after_sizes c =
    let sides = c.renew_right.ensures.lines in
    let line = right-line c.args.book.now c.renew_right.new.self c.args.j c.index-2.result.now c.deref-2.result.now c.requires.bid.known
    c.renew_right.ensures.exact c.index-2.ensures c.deref-2.ensures.value sides in
    right-small c.args.book.now c.args.j c.deref-2.result.now c.supply.ensures.kept line

pub returns-clause-beaten : goal.returns-clause-beaten
returns-clause-beaten c = λ yes.
    let book = c.args.book.now in
    let lots = c.args.package.now in
    let before = c.deref.result.now in
    let after = c.deref-2.result.now in
    let sides = c.renew_right.ensures.lines in
    let low : c.args.j - 1 ≤ c.renew_right.new.self.left_to = omega (arith, c.renew_left.ensures.exact, c.renew_right.ensures.left) in
    let limit = c.limit_beside-limit.result in
    let limit_fits : SFits w128 limit = search rules in
    let below : AreBelow c.supply.result.now lots before after limit = rw (to_z-of_z w128 limit limit_fits) at (c.are_below.ensures yes) in
    let on_book : AreBelow book.supply lots before after limit = subst (λ (s : List ℕ). AreBelow s lots before after limit) c.supply.ensures.supply below in
    record {
      before = before;
      after = after;
      left = left-line book c.renew_right.new.self (c.args.j - 1) c.index.result.now before (omega (arith, c.requires.bid.known)) low c.index.ensures
          c.deref.ensures.value sides;
      right = right-line book c.renew_right.new.self c.args.j c.index-2.result.now after c.requires.bid.known c.renew_right.ensures.exact c.index-2.ensures
          c.deref-2.ensures.value sides;
      below = subst (λ (z : ℤ). AreBelow book.supply lots before after z) c.limit_beside-limit.ensures on_book;
    }
