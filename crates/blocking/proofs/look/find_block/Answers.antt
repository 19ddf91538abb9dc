use Rattle.std.proofs.Common.{◌≡◌, ◌-ℤ◌, ◌∙◌, ap, arith, refl, rules}
use Rattle.std.proofs.lemmas.Int.{ints, to_z-of_z}
use mir.Val.{to_z, of_z}
use mir.Syntax.{w128}
use Rattle.auction_model.specs.Lowered.{of_bidder}
use Rattle.auction_model.specs.Prices.{everyone, paid, sum_over}
use Rattle.blocking.specs.Look.{IsFound}
use Rattle.blocking.proofs.Sizes.{row-range}
use Rattle.blocking.proofs.Taking.{look-free, look-blocks, look-block, found-again, excess-fits}
use Rattle.blocking.proofs.look.find_block.Goals as goal

pub paid_by_all-paid-requires : goal.paid_by_all-paid-requires
paid_by_all-paid-requires g c = record {
  small = λ k le. row-range (g.C.Chooser.market c.args.chooser.now)
      (g.C.Chooser.chosen c.args.chooser.now) c.args.den c.args.at.now c.requires everyone k le;
}

pub returns-then-found-paid-clause-free : goal.returns-then-found-paid-clause-free
returns-then-found-paid-clause-free g c =
    let m = g.C.Chooser.market c.args.chooser.now in
    let z = g.C.Chooser.chosen c.args.chooser.now in
    let at = c.args.at.now in
    let d : to_z w128 (of_z w128 c.args.den) ≡ c.args.den = to_z-of_z w128 c.args.den (search rules) in
    let found : IsFound m z c.args.den at c.in_ok-found.found.choice c.in_ok-found.found.sum = rw d at c.in_ok-found.ensures.found in
    let s : to_z w128 (of_z w128 c.in_ok-found.found.sum) ≡ c.in_ok-found.found.sum = to_z-of_z w128 c.in_ok-found.found.sum (search rules) in
    let p : to_z w128 (of_z w128 c.paid_by_all-paid.result) ≡ c.paid_by_all-paid.result = to_z-of_z w128 c.paid_by_all-paid.result (search rules) in
    let all : c.paid_by_all-paid.result ≡ paid m (record { den = c.args.den; at = at }) = c.paid_by_all-paid.ensures
    ∙ ap (sum_over everyone (of_bidder at)) c.requires.asks.bidders in
    look-free m (g.met.C.Chooser.lawful c.args.chooser.now) z (g.met.C.Chooser.winning c.args.chooser.now) c.args.den at c.requires c.in_ok-found.found.choice
    c.in_ok-found.found.sum found (omega (arith, ints, c.if-found-paid.true, s, p, all))

pub overflow_sub-excess : goal.overflow_sub-excess
overflow_sub-excess g c =
    let m = g.C.Chooser.market c.args.chooser.now in
    let z = g.C.Chooser.chosen c.args.chooser.now in
    let at = c.args.at.now in
    let d : to_z w128 (of_z w128 c.args.den) ≡ c.args.den = to_z-of_z w128 c.args.den (search rules) in
    let found : IsFound m z c.args.den at c.in_ok-found.found.choice c.in_ok-found.found.sum = rw d at c.in_ok-found.ensures.found in
    let s : to_z w128 (of_z w128 c.in_ok-found.found.sum) ≡ c.in_ok-found.found.sum = to_z-of_z w128 c.in_ok-found.found.sum (search rules) in
    let p : to_z w128 (of_z w128 c.paid_by_all-paid.result) ≡ c.paid_by_all-paid.result = to_z-of_z w128 c.paid_by_all-paid.result (search rules) in
    let all : c.paid_by_all-paid.result ≡ paid m (record { den = c.args.den; at = at }) = c.paid_by_all-paid.ensures
    ∙ ap (sum_over everyone (of_bidder at)) c.requires.asks.bidders in
    rw (s, p, all) (excess-fits m (g.met.C.Chooser.lawful c.args.chooser.now) z (g.met.C.Chooser.winning c.args.chooser.now) c.args.den at c.requires
    c.in_ok-found.found.choice c.in_ok-found.found.sum found)

pub row_given-row-requires-clause-found : goal.row_given-row-requires-clause-found
row_given-row-requires-clause-found g c =
    let m = g.C.Chooser.market c.args.chooser.now in
    let z = g.C.Chooser.chosen c.args.chooser.now in
    let at = c.args.at.now in
    let d : to_z w128 (of_z w128 c.args.den) ≡ c.args.den = to_z-of_z w128 c.args.den (search rules) in
    let found : IsFound m z c.args.den at c.in_ok-found.found.choice c.in_ok-found.found.sum = rw d at c.in_ok-found.ensures.found in
    let s : to_z w128 (of_z w128 c.in_ok-found.found.sum) ≡ c.in_ok-found.found.sum = to_z-of_z w128 c.in_ok-found.found.sum (search rules) in
    let p : to_z w128 (of_z w128 c.paid_by_all-paid.result) ≡ c.paid_by_all-paid.result = to_z-of_z w128 c.paid_by_all-paid.result (search rules) in
    let all : c.paid_by_all-paid.result ≡ paid m (record { den = c.args.den; at = at }) = c.paid_by_all-paid.ensures
    ∙ ap (sum_over everyone (of_bidder at)) c.requires.asks.bidders in
    let x : to_z w128 (of_z w128 (c.in_ok-found.found.sum -ℤ paid m (record { den = c.args.den; at = at }))) ≡ c.in_ok-found.found.sum -ℤ paid m
    (record { den = c.args.den; at = at }) =
    to_z-of_z w128 (c.in_ok-found.found.sum -ℤ paid m (record { den = c.args.den; at = at }))
    (excess-fits m (g.met.C.Chooser.lawful c.args.chooser.now) z (g.met.C.Chooser.winning c.args.chooser.now) c.args.den at c.requires
    c.in_ok-found.found.choice c.in_ok-found.found.sum found) in
    rw (d, s, p, all, x) (found-again m z c.args.den at c.in_ok-found.found.choice c.in_ok-found.found.sum _ found refl)

pub returns-clause-block : goal.returns-clause-block
returns-clause-block g c =
    let m = g.C.Chooser.market c.args.chooser.now in
    let z = g.C.Chooser.chosen c.args.chooser.now in
    let at = c.args.at.now in
    let d : to_z w128 (of_z w128 c.args.den) ≡ c.args.den = to_z-of_z w128 c.args.den (search rules) in
    let found : IsFound m z c.args.den at c.in_ok-found.found.choice c.in_ok-found.found.sum = rw d at c.in_ok-found.ensures.found in
    let s : to_z w128 (of_z w128 c.in_ok-found.found.sum) ≡ c.in_ok-found.found.sum = to_z-of_z w128 c.in_ok-found.found.sum (search rules) in
    let p : to_z w128 (of_z w128 c.paid_by_all-paid.result) ≡ c.paid_by_all-paid.result = to_z-of_z w128 c.paid_by_all-paid.result (search rules) in
    let all : c.paid_by_all-paid.result ≡ paid m (record { den = c.args.den; at = at }) = c.paid_by_all-paid.ensures
    ∙ ap (sum_over everyone (of_bidder at)) c.requires.asks.bidders in
    let x : to_z w128 (of_z w128 (c.in_ok-found.found.sum -ℤ paid m (record { den = c.args.den; at = at }))) ≡ c.in_ok-found.found.sum -ℤ paid m
    (record { den = c.args.den; at = at }) =
    to_z-of_z w128 (c.in_ok-found.found.sum -ℤ paid m (record { den = c.args.den; at = at }))
    (excess-fits m (g.met.C.Chooser.lawful c.args.chooser.now) z (g.met.C.Chooser.winning c.args.chooser.now) c.args.den at c.requires
    c.in_ok-found.found.choice c.in_ok-found.found.sum found) in
    rw (s, p, all, x)
    (look-block m (g.met.C.Chooser.lawful c.args.chooser.now) z (g.met.C.Chooser.winning c.args.chooser.now) c.args.den at c.requires
    c.in_ok-found.found.choice c.in_ok-found.found.sum found _
    (rw d at c.row_given-row.ensures.members) (rw d at c.row_given-row.ensures.bound) refl refl (omega (arith, ints, c.if-found-paid.false, s, p, all)))

pub returns-clause-blocks : goal.returns-clause-blocks
returns-clause-blocks g c =
    let m = g.C.Chooser.market c.args.chooser.now in
    let z = g.C.Chooser.chosen c.args.chooser.now in
    let at = c.args.at.now in
    let d : to_z w128 (of_z w128 c.args.den) ≡ c.args.den = to_z-of_z w128 c.args.den (search rules) in
    let found : IsFound m z c.args.den at c.in_ok-found.found.choice c.in_ok-found.found.sum = rw d at c.in_ok-found.ensures.found in
    let s : to_z w128 (of_z w128 c.in_ok-found.found.sum) ≡ c.in_ok-found.found.sum = to_z-of_z w128 c.in_ok-found.found.sum (search rules) in
    let p : to_z w128 (of_z w128 c.paid_by_all-paid.result) ≡ c.paid_by_all-paid.result = to_z-of_z w128 c.paid_by_all-paid.result (search rules) in
    let all : c.paid_by_all-paid.result ≡ paid m (record { den = c.args.den; at = at }) = c.paid_by_all-paid.ensures
    ∙ ap (sum_over everyone (of_bidder at)) c.requires.asks.bidders in
    look-blocks m (g.met.C.Chooser.lawful c.args.chooser.now) z (g.met.C.Chooser.winning c.args.chooser.now) c.args.den at c.requires
    c.in_ok-found.found.choice c.in_ok-found.found.sum found (omega (arith, ints, c.if-found-paid.false, s, p, all))
