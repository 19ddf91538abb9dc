use Rattle.std.proofs.Common.{◌≡◌, suc, append-nil, ◌+◌, ◌++◌, [], drop, arith, rules, sym, ap, ◌∙◌, pos, slice_index_or, ◌-ℤ◌, ◌*ℤ◌}
use Rattle.std.proofs.lemmas.Int.{ints, to_z-of_z}
use Rattle.std.proofs.Math.ListN.{drop_of_length-le}
use Rattle.auction_model.specs.Market.{worth_in}
use Rattle.core_laws.specs.Surplus.{surpluses_after, surpluses_of}
use Rattle.core_laws.proofs.Surplus.{surpluses-pushed}
use mir.Val.{to_z, of_z}
use mir.Syntax.{w128}
use Rattle.blocking.proofs.Sizes.{low-at, paid-at}
use Rattle.blocking.proofs.surplus.surpluses.Goals as goal

pub surplus-requires : goal.surplus-requires
surplus-requires g c =
    let m = g.C.Chooser.market c.args.chooser.now in
    let z = g.C.Chooser.chosen c.args.chooser.now in
    let d : to_z w128 (of_z w128 c.args.den) ≡ c.args.den = to_z-of_z w128 c.args.den (search rules) in
    let r : to_z w128 (of_z w128 c.winner_value-own.result) ≡ c.winner_value-own.result = to_z-of_z w128 c.winner_value-own.result (search rules) in
    let l = low-at m z c.args.den c.args.at.now (g.met.C.Chooser.lawful c.args.chooser.now) (g.met.C.Chooser.winning c.args.chooser.now) c.requires c.loop-k.k
    c.loop-k-test.true in
    let p = paid-at m z c.args.den c.args.at.now c.requires c.loop-k.k c.loop-k-test.true in
    record {
      own = rw (d, r, c.winner_value-own.ensures) l;
      paid = (omega (arith, ints), omega (arith, ints));
    }

pub loop-k-preserved : goal.loop-k-preserved
loop-k-preserved g c =
    let m = g.C.Chooser.market c.args.chooser.now in
    let z = g.C.Chooser.chosen c.args.chooser.now in
    let at = c.args.at.now in
    let k = c.loop-k.k in
    let d : to_z w128 (of_z w128 c.args.den) ≡ c.args.den = to_z-of_z w128 c.args.den (search rules) in
    let r : to_z w128 (of_z w128 c.winner_value-own.result) ≡ c.winner_value-own.result = to_z-of_z w128 c.winner_value-own.result (search rules) in
    let l = low-at m z c.args.den at (g.met.C.Chooser.lawful c.args.chooser.now) (g.met.C.Chooser.winning c.args.chooser.now) c.requires k c.loop-k-test.true in
    let p = paid-at m z c.args.den at c.requires k c.loop-k-test.true in
    let u : k + 1 ≡ suc k = omega arith in
    let b : to_z w128 (of_z w128 (slice_index_or at k (pos 0))) ≡ slice_index_or at k (pos 0) = omega (arith, ints) in
    let e : c.surplus.result ≡ (c.args.den *ℤ worth_in m z (suc k)) -ℤ slice_index_or at k (pos 0) =
    rw (← u, ← c.winner_value-own.ensures) (rw (d, r, b) at c.surplus.ensures) in
    let x : to_z w128 (of_z w128 c.surplus.result) ≡ c.surplus.result = to_z-of_z w128 c.surplus.result (search rules) in
    let inv : c.loop-k.list.items ++ surpluses_after m z c.args.den k (drop k at) ≡ surpluses_of m z c.args.den at = rw d at c.loop-k.invariant in
    rw (d, c.in_ok-push.ensures.items) (surpluses-pushed m z c.args.den at c.loop-k.list.items (surpluses_of m z c.args.den at) k
    (to_z w128 (of_z w128 c.surplus.result)) c.loop-k-test.true inv (x ∙ e))

pub returns : goal.returns
returns g c =
    let m = g.C.Chooser.market c.args.chooser.now in
    let z = g.C.Chooser.chosen c.args.chooser.now in
    let at = c.args.at.now in
    let d : to_z w128 (of_z w128 c.args.den) ≡ c.args.den = to_z-of_z w128 c.args.den (search rules) in
    let e : drop c.loop-k.k at ≡ [] = drop_of_length-le at c.loop-k-test.false in
    let inv : c.loop-k.list.items ++ surpluses_after m z c.args.den c.loop-k.k (drop c.loop-k.k at) ≡ surpluses_of m z c.args.den at =
    rw d at c.loop-k.invariant in
    sym (append-nil c.loop-k.list.items) ∙ sym (ap (λ t. c.loop-k.list.items ++ surpluses_after m z c.args.den c.loop-k.k t) e) ∙ inv
