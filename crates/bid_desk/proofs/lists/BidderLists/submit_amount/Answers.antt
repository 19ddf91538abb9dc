-- The lists differ in the amount at the place alone.
use Rattle.std.proofs.Common.{rules, ◌≡◌, ◌∙◌, List, map, ap, sym, subst, arith, length}
use Rattle.std.specs.Vec.{vec_len}
use Rattle.auction_model.specs.Book.{BookBid}
use Rattle.relative_cap.specs.OwnRounds.{bid_value}
use Rattle.bid_desk.specs.Differences.{IsSameButAt}
use Rattle.bid_desk.specs.Lists.{Lists, lists_with}
use Rattle.bid_desk.proofs.DifferenceLaws.{entries-inside, amount-submitted}
use Rattle.bid_desk.proofs.lists.BidderLists.submit_amount.Goals as goal

pub index-requires : goal.index-requires
index-requires c =
    let but : IsSameButAt c.args.place (map bid_value c.self.inside.drafts.items) (map bid_value c.self.inside.submitted.items)
    = subst (λ (l : Lists). IsSameButAt c.args.place l.drafts l.submitted) (sym c.self.view_is) c.requires in
    let all : vec_len c.self.inside.drafts ≡ length c.self.inside.drafts.items = search rules in
    omega (arith, all, (entries-inside c.self.inside.drafts.items c.self.inside.submitted.items c.args.place but).0)

pub index_mut-requires : goal.index_mut-requires
index_mut-requires c =
    let but : IsSameButAt c.args.place (map bid_value c.self.inside.drafts.items) (map bid_value c.self.inside.submitted.items)
    = subst (λ (l : Lists). IsSameButAt c.args.place l.drafts l.submitted) (sym c.self.view_is) c.requires in
    let all : vec_len c.self.inside.submitted ≡ length c.self.inside.submitted.items = search rules in
    omega (arith, all, (entries-inside c.self.inside.drafts.items c.self.inside.submitted.items c.args.place but).1)

pub invariant_of-self : goal.invariant_of-self
invariant_of-self c =
    let but : IsSameButAt c.args.place (map bid_value c.self.inside.drafts.items) (map bid_value c.self.inside.submitted.items)
    = subst (λ (l : Lists). IsSameButAt c.args.place l.drafts l.submitted) (sym c.self.view_is) c.requires in
    amount-submitted c.self.inside.drafts.items c.self.inside.submitted.items c.args.place c.index.result.now c.index_mut.result.now but c.index.ensures
    c.index_mut.ensures.value

pub returns : goal.returns
returns c =
    let but : IsSameButAt c.args.place (map bid_value c.self.inside.drafts.items) (map bid_value c.self.inside.submitted.items)
    = subst (λ (l : Lists). IsSameButAt c.args.place l.drafts l.submitted) (sym c.self.view_is) c.requires in
    let same = amount-submitted c.self.inside.drafts.items c.self.inside.submitted.items c.args.place c.index.result.now c.index_mut.result.now but
    c.index.ensures c.index_mut.ensures.value in
    ap (λ (bids : List BookBid). lists_with (map bid_value c.self.inside.drafts.items) bids) (sym same)
    ∙ ap (λ (l : Lists). lists_with l.drafts l.drafts) c.self.view_is
