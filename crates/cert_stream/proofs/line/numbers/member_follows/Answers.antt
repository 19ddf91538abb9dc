use Rattle.std.proofs.Common.{◌≡◌, Bool, pos, subst, arith, rules, FitsSigned, ℤ, to_z}
use Rattle.std.specs.Prelude.{◌<ℤ◌, ◌≤ℤ◌, ◌↔◌, IsTrue}
use Rattle.std.specs.Int.{w128}
use Rattle.std.proofs.lemmas.Int.{to_z-of_z, ints}
use Rattle.cert_stream.specs.Forms.{last_of, Keeps}
use Rattle.cert_stream.proofs.Following.{members_in}
use Rattle.cert_stream.proofs.line.numbers.member_follows.Goals as goal

pub returns : goal.returns
returns c = λ ns z beyond keeps begins kept.
    let none = members_in c.args.bidders ns c.args.out.now c.args.count beyond (omega (arith, c.ranges.bidders.fits)) keeps begins in
    let last : c.last-before.result ≡ last_of (pos 0) ns = c.last-before.ensures.last ns c.args.bidders
    (subst (λ (b : Bool). Keeps ns c.args.out.now c.args.count b) none keeps) begins in
    let f : FitsSigned w128 c.last-before.result = search rules in
    let most : to_z w128 c.args.bidders ≡ pos c.args.bidders = omega (arith, ints, c.ranges.bidders.fits) in
    let b : IsTrue c.is_between.result ↔ ((c.last-before.result <ℤ z) × (z ≤ℤ pos c.args.bidders)) = simp (to_z-of_z, most) at (c.is_between.ensures z kept) in
    subst (λ (x : ℤ). IsTrue c.is_between.result ↔ ((x <ℤ z) × (z ≤ℤ pos c.args.bidders))) last b
