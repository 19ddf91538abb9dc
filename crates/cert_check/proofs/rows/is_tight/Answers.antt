use Rattle.std.proofs.Common.{◌≡◌, ◌≤◌, ◌*ℤ◌, ◌-ℤ◌, ℕ, ℤ, not, unsigned_abs, ◌∙◌, ap, to_z, of_z, arith, rules}
use Rattle.std.proofs.lemmas.Int.{ints, to_z-of_z}
use mir.Val.{SFits}
use mir.Syntax.{w128}
use Rattle.auction_model.specs.Book.{market_of}
use Rattle.auction_model.specs.Lowered.{of_bidder}
use Rattle.auction_model.specs.Market.{value_of, worth_in}
use Rattle.auction_model.specs.Prices.{sum_over}
use Rattle.cert_grammar.specs.Certificate.{is_member}
use Rattle.cert_soundness.specs.Tests.{bidders_of}
use Rattle.cert_check.proofs.HeadLaws.{claim-known, allowed-value, some-won, times-small}
use Rattle.cert_check.proofs.SumLaws.{bits-same}
use Rattle.cert_check.proofs.rows.is_tight.Goals as goal

pub won_beside-requires : goal.won_beside-requires
won_beside-requires c = record { known = claim-known c.args.claim.now }

pub overflow_sub-rest : goal.overflow_sub-rest
overflow_sub-rest c =
    let a = c.args.claim.now in
    let others = λ (j : ℕ). not (is_member c.args.members.now j) in
    let total : c.won_beside.result ≡ sum_over (λ j. not (is_member c.args.members.now j))
    (worth_in (market_of c.args.claim.now.book.now) c.args.claim.now.choice.now) (bidders_of c.args.claim.now.book.now) = c.won_beside.ensures.sum in
    let beside = some-won a c.won_beside.ensures.kept others in
    let value = allowed-value a c.won_beside.ensures.kept c.args.choice.now c.requires.allowed in
    let value_fits : SFits w128 c.args.claim.now.value = search rules in
    omega (arith, ints, total, beside.0, beside.1, value.0, value.1, c.value_among.ensures.value, value_fits)

pub paid_by-requires-clause-count : goal.paid_by-requires-clause-count
paid_by-requires-clause-count c = omega (arith, c.requires.pay.0, c.won_beside.ensures.kept.bidders)

pub times-requires : goal.times-requires
times-requires c =
    let a = c.args.claim.now in
    let others = λ (j : ℕ). not (is_member c.args.members.now j) in
    let total : c.won_beside.result ≡ sum_over (λ j. not (is_member c.args.members.now j))
    (worth_in (market_of c.args.claim.now.book.now) c.args.claim.now.choice.now) (bidders_of c.args.claim.now.book.now) = c.won_beside.ensures.sum in
    let beside = some-won a c.won_beside.ensures.kept others in
    let value = allowed-value a c.won_beside.ensures.kept c.args.choice.now c.requires.allowed in
    let value_fits : SFits w128 c.args.claim.now.value = search rules in
    let den_fits : SFits w128 c.args.claim.now.den = search rules in
    let rest : to_z w128 (of_z w128 (to_z w128 (of_z w128 c.value_among.result) -ℤ to_z w128 (of_z w128 c.won_beside.result))) ≡ c.value_among.result -ℤ
    c.won_beside.result =
    omega (arith, ints, total, beside.0, beside.1, value.0, value.1, c.value_among.ensures.value, value_fits) in
    let low : unsigned_abs (c.value_among.result -ℤ c.won_beside.result) ≤ unsigned_abs c.args.claim.now.value =
    omega (arith, ints, total, beside.0, beside.1, value.0, value.1, c.value_among.ensures.value) in
    rw (to_z-of_z w128 c.args.claim.now.den den_fits, rest)
    (times-small a (c.value_among.result -ℤ c.won_beside.result) low)

pub returns : goal.returns
returns c =
    let a = c.args.claim.now in
    let book = a.book.now in
    let members = c.args.members.now in
    let others = λ (j : ℕ). not (is_member c.args.members.now j) in
    let total : c.won_beside.result ≡ sum_over (λ j. not (is_member c.args.members.now j))
    (worth_in (market_of c.args.claim.now.book.now) c.args.claim.now.choice.now) (bidders_of c.args.claim.now.book.now) = c.won_beside.ensures.sum in
    let beside = some-won a c.won_beside.ensures.kept others in
    let value = allowed-value a c.won_beside.ensures.kept c.args.choice.now c.requires.allowed in
    let value_fits : SFits w128 c.args.claim.now.value = search rules in
    let den_fits : SFits w128 c.args.claim.now.den = search rules in
    let rest : to_z w128 (of_z w128 (to_z w128 (of_z w128 c.value_among.result) -ℤ to_z w128 (of_z w128 c.won_beside.result))) ≡ c.value_among.result -ℤ
    c.won_beside.result =
    omega (arith, ints, total, beside.0, beside.1, value.0, value.1, c.value_among.ensures.value, value_fits) in
    let times_fits : SFits w128 c.times.result = search rules in
    let paid_fits : SFits w128 c.paid_by.result = search rules in
    let product = rw (to_z-of_z w128 c.args.claim.now.den den_fits, rest) at c.times.ensures in
    let times = product
    ∙ ap (λ (z : ℤ). c.args.claim.now.den *ℤ (z -ℤ c.won_beside.result)) c.value_among.ensures.value
    ∙ ap (λ (z : ℤ). c.args.claim.now.den *ℤ (value_of (market_of book) c.args.choice.now -ℤ z)) total in
    let paid = c.paid_by.ensures ∙ ap (λ (n : ℕ). sum_over (is_member members) (of_bidder c.args.pay.now) n) c.requires.pay.0 in
    bits-same c.paid_by.result c.times.result _ _ paid_fits times_fits paid times
