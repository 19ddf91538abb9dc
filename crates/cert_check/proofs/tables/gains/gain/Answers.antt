use Rattle.std.proofs.Common.{◌≡◌, ◌∙◌, ◌-◌, rules, get_or, pos, ◌-ℤ◌, ◌*ℤ◌}
use Rattle.std.proofs.lemmas.Int.{to_z-of_z}
use Rattle.cert_check.proofs.Gains.{gain-won, gain-lost}
use mir.Val.{SFits}
use mir.Syntax.{w128}
use Rattle.cert_check.proofs.tables.gains.gain.Goals as goal

pub returns-then-number-eq0 : goal.returns-then-number-eq0
returns-then-number-eq0 c = gain-lost c.args.book.now c.args.den c.args.choice.now c.args.pay.now c.args.j c.if-number-eq0.true

pub returns : goal.returns
returns c =
    let paid = get_or c.args.pay.now (c.args.j - 1) (pos 0) in
    let den_fits : SFits w128 c.args.den = search rules in
    let net_fits : SFits w128 c.net.result = search rules in
    let paid_fits : SFits w128 (get_or c.args.pay.now (c.args.j - 1) (pos 0)) = search rules in
    let result_fits : SFits w128 c.scaled_less.result = search rules in
    let is : c.scaled_less.result ≡ (c.args.den *ℤ c.net.result) -ℤ paid = simp to_z-of_z at c.scaled_less.ensures.value in
    to_z-of_z w128 c.scaled_less.result result_fits ∙ is ∙ gain-won c.args.book.now c.args.den c.args.choice.now c.args.pay.now c.args.j c.net.result
    c.if-number-eq0.false c.net.ensures
