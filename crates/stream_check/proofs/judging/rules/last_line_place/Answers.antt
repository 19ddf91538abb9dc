use Rattle.std.proofs.Common.{◌≡◌, ◌∙◌, ◌+◌, ◌*◌, suc, Some, arith, ap, subst, sym, ℕ, []}
use Rattle.std.specs.Prelude.{slice_index_or}
use Rattle.auction_model.specs.Place.{states_of}
use Rattle.cert_soundness.specs.Tests.{bidders_of, states}
use Rattle.table_check.specs.Faults.{FirstFault}
use Rattle.table_check.specs.LineTests.{RulesAt}
use Rattle.cert_check.proofs.PartLines.{fault-rules}
use Rattle.stream_check.specs.Rules.{IsFirstBetween}
use Rattle.stream_check.proofs.RuleLaws.{line-between, none-own, tested-all}
use Rattle.stream_check.proofs.judging.rules.last_line_place.Goals as goal

pub returns-then-k-bidders : goal.returns-then-k-bidders
returns-then-k-bidders c = λ t has. none-own (RulesAt c.args.offers.now t) (bidders_of c.args.offers.now.book.now) c.args.k
    (states c.args.offers.now.book.now) (omega (arith, c.if-k-bidders.true, c.bidders.ensures.bidders))

pub returns : goal.returns
returns c = λ t has.
    let o = c.args.offers.now in
    let last : bidders_of o.book.now ≡ c.args.k = omega (arith, c.requires.line, c.if-k-bidders.false, c.bidders.ensures.bidders) in
    let same : c.states.result ≡ states o.book.now = c.states.ensures.states ∙ ap states_of c.supply.ensures.supply in
    let line_is = sym (c.numbers_in-line.ensures ∙ has.line) in
    let own = fault-rules o t (bidders_of o.book.now) c.last_line_fault-fault.result (omega arith)
    (c.last_line_fault-fault.ensures t has.whole (ap (λ (n : ℕ). slice_index_or t n []) last ∙ line_is)) in
    let f = subst (λ (n : ℕ). FirstFault (λ s. RulesAt o t (n * states o.book.now + s)) (states o.book.now) c.last_line_fault-fault.result) last own in
    let all : suc c.args.k ≡ suc (bidders_of o.book.now) = ap suc (sym last) in
    subst (λ (n : ℕ). IsFirstBetween (RulesAt o t) (c.args.k * states o.book.now) (n * states o.book.now) c.place_of.result)
    (all ∙ sym (tested-all (bidders_of o.book.now) c.args.k (omega (arith, last))))
    (line-between (RulesAt o t) c.args.k (states o.book.now) c.last_line_fault-fault.result c.place_of.result f
    (λ low. c.place_of.ensures.fault (omega (arith, low, same)) ∙ ap (λ (n : ℕ). Some (c.args.k * n + c.last_line_fault-fault.result)) same)
    (λ past. c.place_of.ensures.none (omega (arith, past, same))))
