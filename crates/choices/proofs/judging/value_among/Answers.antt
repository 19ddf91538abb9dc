use Rattle.std.proofs.Common.{◌≡◌, ◌≤◌, ◌<◌, length, drop, [], ◌+ℤ◌, ap, arith, rules}
use Rattle.std.proofs.lemmas.Int.{ints, to_z-of_z}
use Rattle.std.proofs.lemmas.List.{drop_all}
use Rattle.auction_model.specs.Book.{menu_of, net_of}
use Rattle.auction_model.specs.Market.{sum_after}
use Rattle.auction_model.proofs.ChoiceLaws.{known-length, known-of, sum-step}
use mir.Val.{SFits, to_z}
use mir.Syntax.{w128}
use Rattle.choices.proofs.judging.value_among.Goals as goal

pub bounds-numbers-k : goal.bounds-numbers-k
bounds-numbers-k c = omega (arith, known-length (menu_of c.args.book.now) 0 c.args.numbers.now c.requires, c.bidders-k-end.ensures.bidders)

pub worth-value-requires-clause-bid : goal.worth-value-requires-clause-bid
worth-value-requires-clause-bid c =
    let inside : c.loop-k.k < length c.args.numbers.now = omega (
      arith,
      known-length (menu_of c.args.book.now) 0 c.args.numbers.now c.requires,
      c.bidders-k-end.ensures.bidders,
    ) in
    known-of (menu_of c.args.book.now) c.args.numbers.now c.loop-k.k c.requires inside

pub loop-k-preserved : goal.loop-k-preserved
loop-k-preserved c =
    let numbers = c.args.numbers.now in
    let k = c.loop-k.k in
    let net = net_of c.args.book.now in
    let old = to_z w128 c.loop-k.value-bits in
    let own = c.worth-value.result in
    let inside : k < length numbers = omega (arith, known-length (menu_of c.args.book.now) 0 numbers c.requires, c.bidders-k-end.ensures.bidders) in
    let own_fits : SFits w128 own = search rules in
    let sum_fits : SFits w128 (old +ℤ own) = search rules in
    let own_same = to_z-of_z w128 own own_fits in
    let sum_same = to_z-of_z w128 (old +ℤ own) sum_fits in
    let step = sum-step net numbers k inside in
    record {
      whole = rw (own_same, sum_same) (omega (arith, ints, step, c.loop-k.invariant.whole, c.worth-value.ensures.worth));
      not_negative = rw (own_same, sum_same) (omega (arith, ints, c.loop-k.invariant.not_negative, c.worth-value.ensures.not_negative));
      size = rw (own_same, sum_same) (omega (arith, ints, c.loop-k.invariant.size, c.worth-value.ensures.size));
    }

pub returns-clause-value : goal.returns-clause-value
returns-clause-value c =
    let numbers = c.args.numbers.now in
    let k = c.loop-k.k in
    let net = net_of c.args.book.now in
    let all : length numbers ≤ k = omega (arith, known-length (menu_of c.args.book.now) 0 numbers c.requires, c.bidders-k-end.ensures.bidders) in
    let rest : sum_after net k (drop k numbers) ≡ sum_after net k [] = ap (sum_after net k) (drop_all k numbers all) in
    omega (arith, ints, rest, c.loop-k.invariant.whole)

pub returns-clause-range : goal.returns-clause-range
returns-clause-range c =
    let most : c.loop-k.k ≤ 16 = omega (arith, c.bidders-k-end.ensures.bidders, c.bidders-k-end.ensures.most) in
    record {
      0 = c.loop-k.invariant.not_negative;
      1 = omega (arith, ints, most, c.loop-k.invariant.size, c.loop-k.invariant.not_negative);
    }
