use Rattle.std.proofs.Common.{◌≡◌, ◌≢◌, ◌+◌, ◌<◌, ℕ, suc, Some, length, drop, get_or, sym, ap, subst, ◌∙◌, arith}
use Rattle.std.proofs.lemmas.Bool.{false≢true}
use Rattle.std.proofs.lemmas.Bool.Decides.{Decides-eqb}
use Rattle.std.proofs.lemmas.Slice.Eq.{slice_eq-Decides}
use Rattle.auction_model.specs.Book.{BookBid, bids_of, no_bid}
use Rattle.review.specs.Edits.{amount_for}
use Rattle.review.proofs.ReplyLaws.{amount-found, amount-passed, bid-next}
use Rattle.review.proofs.replies.bid_for.Goals as goal

pub returns-then-eq-clause-amount : goal.returns-then-eq-clause-amount
returns-then-eq-clause-amount c =
    let book = c.args.book.now in
    let i = c.loop-i.i in
    let bids = bids_of book c.args.j in
    let inside : i < length bids = omega (arith, c.bids-i-end.ensures.bids) in
    let decides = slice_eq-Decides Decides-eqb c.counts.result.now c.counts-in-loop-i.result.now c.eq.result c.eq.ensures in
    let lots : (get_or bids i no_bid).lots ≡ c.args.wanted.now =
    ap (λ (b : BookBid). b.lots) (sym (bid-next book c.args.j i)) ∙ sym c.bid.ensures.lots ∙ sym c.counts.ensures ∙ decides.0 c.if-eq.true
    ∙ c.counts-in-loop-i.ensures in
    sym c.loop-i.invariant ∙ amount-found c.args.wanted.now bids i inside lots ∙ ap (λ (b : BookBid). Some b.amount) (sym (bid-next book c.args.j i))

pub loop-i-preserved : goal.loop-i-preserved
loop-i-preserved c =
    let book = c.args.book.now in
    let i = c.loop-i.i in
    let bids = bids_of book c.args.j in
    let inside : i < length bids = omega (arith, c.bids-i-end.ensures.bids) in
    let decides = slice_eq-Decides Decides-eqb c.counts.result.now c.counts-in-loop-i.result.now c.eq.result c.eq.ensures in
    let other : (get_or bids i no_bid).lots ≢ c.args.wanted.now =
    λ own. absurd (false≢true (sym c.if-eq.false ∙ decides.1 (c.counts.ensures ∙ c.bid.ensures.lots ∙ ap (λ (b : BookBid). b.lots) (bid-next book c.args.j i)
    ∙ own ∙ sym c.counts-in-loop-i.ensures))) in
    let up : suc i ≡ i + 1 = omega arith in
    subst (λ (n : ℕ). amount_for c.args.wanted.now (drop n bids) ≡ amount_for c.args.wanted.now bids) up
    (sym (amount-passed c.args.wanted.now bids i inside other) ∙ c.loop-i.invariant)
