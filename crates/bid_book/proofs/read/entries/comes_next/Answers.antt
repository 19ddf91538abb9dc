use Rattle.std.proofs.Common.{◌≡◌, ◌<◌, ℕ, List, length, replicate, sym, ap, ◌∙◌, subst, arith}
use Rattle.std.proofs.lemmas.Bool.Decides.{nat_tests}
use Rattle.auction_model.specs.Package.{ComesBefore}
use Rattle.bid_book.specs.Stages.{lots_before}
use Rattle.bid_book.proofs.PackageOrder.{empty_comes, comes_some, lots_none, lots_some}
use Rattle.bid_book.proofs.read.entries.comes_next.Goals as goal

pub returns-then-last-eq0 : goal.returns-then-last-eq0
returns-then-last-eq0 c =
    let lots = lots_none c.args.book.now c.bidders-last_bidder.result c.bids-last.result c.bidders-last_bidder.ensures.bidders c.bids-last.ensures.bids
    c.if-last-eq0.true in
    let own : lots_before c.args.book.now ≡ replicate (length c.args.package.now) 0 = lots ∙ ap (λ (n : ℕ). replicate n 0) (sym c.requires.categories) in (
      λ yes. subst (λ (l : List ℕ). ComesBefore l c.args.package.now) (sym own) (empty_comes c.args.package.now (grind (arith, nat_tests))),
      λ comes. let none = comes_some (length c.args.package.now) c.args.package.now (subst (λ (l : List ℕ). ComesBefore l c.args.package.now) own comes) in
          grind (arith, nat_tests, none),
    )

pub returns : goal.returns
returns c =
    let some : 0 < c.bids-last.result = omega arith in
    let lots = lots_some c.args.book.now c.bidders-last_bidder.result c.bids-last.result c.bidders-last_bidder.ensures.bidders c.bids-last.ensures.bids some in
    let own : c.counts.result.now ≡ lots_before c.args.book.now = c.counts.ensures ∙ c.bid-before.ensures.lots ∙ sym lots in
    rw (own, c.counts-2.ensures) at c.comes_before.ensures
