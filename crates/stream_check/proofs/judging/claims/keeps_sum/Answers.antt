use Rattle.std.proofs.Common.{◌≡◌, ◌∙◌, ◌-◌, ℕ, [], ap, get_or, pos, List, length, rules}
use Rattle.std.specs.Prelude.{ℤ, slice_index_or}
use Rattle.std.proofs.lemmas.Int.{to_z-of_z}
use mir.Val.{SFits}
use mir.Syntax.{w128}
use Rattle.auction_model.specs.Lowered.{of_bidder}
use Rattle.auction_model.specs.Place.{states_of}
use Rattle.auction_model.specs.Prices.{everyone, sum_over, weight_of}
use Rattle.auction_model.specs.Table.{entry_at}
use Rattle.cert_soundness.specs.Tests.{full, states}
use Rattle.stream_check.proofs.LoweredCome.{pay-there, line-there, keeps-sum}
use Rattle.stream_check.proofs.judging.claims.keeps_sum.Goals as goal

pub returns : goal.returns
returns c = λ cert is.
    let at = c.args.at.now in
    let paid_fits : SFits w128 c.sum_paid-paid.result = search rules in
    let entry_fits : SFits w128 (get_or c.numbers_in-line.result.now (c.states.result - 1) (pos 0)) = search rules in
    let same : c.states.result ≡ states at.book.now = c.states.ensures.states ∙ ap states_of c.supply.ensures.supply in
    let line_is = c.numbers_in-line.ensures ∙ line-there c.args.at.now cert is 0 c.requires.due in
    let pay_is = c.numbers_in.ensures ∙ pay-there c.args.at.now cert is 0 c.requires.due in
    let entry : get_or c.numbers_in-line.result.now (c.states.result - 1) (pos 0) ≡ entry_at cert.lowered 0 (full at.book.now) =
    ap (λ (l : List ℤ). get_or l (c.states.result - 1) (pos 0)) line_is ∙ ap (λ (n : ℕ). get_or (slice_index_or cert.lowered 0 []) (n - 1) (pos 0)) same in
    let paid = c.sum_paid-paid.ensures ∙ ap (λ (l : List ℤ). sum_over everyone (of_bidder l) (length l)) pay_is
    ∙ ap (λ (n : ℕ). sum_over everyone (of_bidder cert.pay) n) is.kept.pay.0 in
    keeps-sum at.book.now (weight_of at.weights.now) cert _ _ c.is_at_most.result
    (to_z-of_z w128 (get_or c.numbers_in-line.result.now (c.states.result - 1) (pos 0)) entry_fits ∙ entry)
    (to_z-of_z w128 c.sum_paid-paid.result paid_fits ∙ paid) c.is_at_most.ensures
