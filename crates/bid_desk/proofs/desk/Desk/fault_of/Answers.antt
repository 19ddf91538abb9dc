-- The entries are drafts of a bidder of the award, and the testers are over its closed rounds.
use Rattle.std.proofs.Common.{◌≡◌, ◌∙◌, ◌-◌, ◌<◌, List, length, map, ap, sym, false}
use Rattle.auction_rules.specs.Replies.{is_clock}
use Rattle.auction_rules.specs.State.{DeskState, Round, drafts_of}
use Rattle.relative_cap.specs.OwnRounds.{bid_value, eligibility_in}
use Rattle.bid_desk.proofs.EntryLaws.{entries-of, order-of, points-of}
use Rattle.bid_desk.proofs.SealedLaws.{known-place, sealed-clock, categories-known}
use Rattle.bid_desk.proofs.TesterLaws.{drafts_of-read}
use Rattle.bid_desk.proofs.desk.Desk.fault_of.Goals as goal

pub test_list-requires-clause-list : goal.test_list-requires-clause-list
test_list-requires-clause-list c =
    let inside : c.args.bidder - 1 < length c.self.inside.bidders.items
    = known-place c.self.inside.award c.self.inside.clock c.self.inside.closed c.self.inside.bidders.items c.args.bidder _ c.self.view_is c.requires.known in
    let drafts : map bid_value c.drafts.result.now ≡ drafts_of c.args.self.now c.args.bidder
    = drafts_of-read c.self.inside.award c.self.inside.clock c.self.inside.closed c.self.inside.bidders.items c.args.bidder _ c.index.result.now
    c.args.self.now (map bid_value c.drafts.result.now)
    inside c.index.ensures c.drafts.ensures c.self.view_is in
    entries-of c.drafts.result.now _ _ _ drafts c.requires.known.kept
    (categories-known c.self.inside.award c.self.inside.clock c.self.inside.closed c.self.inside.bidders.items c.args.bidder c.args.self.now
    c.history.result.now
    c.self.view_is c.requires.sealed c.requires.known c.history.ensures.categories c.self.invariant.0)

pub test_list-requires-clause-order : goal.test_list-requires-clause-order
test_list-requires-clause-order c =
    let inside : c.args.bidder - 1 < length c.self.inside.bidders.items
    = known-place c.self.inside.award c.self.inside.clock c.self.inside.closed c.self.inside.bidders.items c.args.bidder _ c.self.view_is c.requires.known in
    let drafts : map bid_value c.drafts.result.now ≡ drafts_of c.args.self.now c.args.bidder
    = drafts_of-read c.self.inside.award c.self.inside.clock c.self.inside.closed c.self.inside.bidders.items c.args.bidder _ c.index.result.now
    c.args.self.now (map bid_value c.drafts.result.now)
    inside c.index.ensures c.drafts.ensures c.self.view_is in
    order-of c.drafts.result.now _ _ drafts c.requires.known.kept

pub test_list-requires-clause-eligible : goal.test_list-requires-clause-eligible
test_list-requires-clause-eligible c =
    let inside : c.args.bidder - 1 < length c.self.inside.bidders.items
    = known-place c.self.inside.award c.self.inside.clock c.self.inside.closed c.self.inside.bidders.items c.args.bidder _ c.self.view_is c.requires.known in
    let drafts : map bid_value c.drafts.result.now ≡ drafts_of c.args.self.now c.args.bidder
    = drafts_of-read c.self.inside.award c.self.inside.clock c.self.inside.closed c.self.inside.bidders.items c.args.bidder _ c.index.result.now
    c.args.self.now (map bid_value c.drafts.result.now)
    inside c.index.ensures c.drafts.ensures c.self.view_is in
    let over : is_clock c.args.self.now.stage ≡ false = sealed-clock c.args.self.now.stage c.requires.sealed in
    let rounds : c.history.result.now ≡ c.args.self.now.rounds = c.history.ensures.history ∙ ap (λ (s : DeskState). s.rounds) c.self.view_is in
    points-of c.drafts.result.now _ c.points.result.now c.args.self.now.terms.points _ _ drafts
    (c.points.ensures.points ∙ ap (λ (s : DeskState). s.terms.points) c.self.view_is)
    (sym (c.requires.known.eligible over) ∙ sym (ap (λ (rs : List Round). eligibility_in rs c.args.bidder 1) rounds)) c.requires.known.points
