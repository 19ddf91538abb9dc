use Rattle.std.proofs.Common.{◌≡◌, ◌∙◌, ◌+◌, ◌*◌, ◌≤◌, ℕ, subst, sym, ap}
use Rattle.auction_model.specs.Place.{states_of}
use Rattle.cert_soundness.specs.Tests.{Asks, bidders_of, states}
use Rattle.cert_check.specs.Partway.{IsJudged, IsLate}
use Rattle.stream_check.proofs.judging.tables.after_entries.Goals as goal

pub returns-clause-whole : goal.returns-clause-whole
returns-clause-whole c = λ last w cert n judged late past.
    let book = c.args.book.now in
    let many : c.bidders-bidders.result + 1 ≡ bidders_of book + 1 = ap (λ (x : ℕ). x + 1) c.bidders-bidders.ensures.bidders in
    let size : c.states.result ≡ states book = c.states.ensures.states ∙ ap states_of c.supply.ensures.supply in
    let same : (bidders_of book + 1) * states book ≡ (c.bidders-bidders.result + 1) * c.states.result =
    sym (ap (λ (x : ℕ). x * c.states.result) many ∙ ap (λ (x : ℕ). (bidders_of book + 1) * x) size) in
    c.after_table.ensures c.args.book.now w cert n
    (subst (λ (x : ℕ). IsJudged c.args.book.now w cert c.args.test x c.args.rules.now.failed) same judged)
    (subst (λ (x : ℕ). IsLate c.args.book.now w cert c.args.test x n c.args.late) same late)
    (subst (λ (x : ℕ). (q : ℕ) → x + n ≤ q → Asks c.args.book.now w cert c.args.test q) same past)
