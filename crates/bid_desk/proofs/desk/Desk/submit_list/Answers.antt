-- The submission is one more line of the log that the desk stands for, unless there was no memory.
use Rattle.std.proofs.Common.{◌≡◌, ◌∙◌, ◌-◌, ◌<◌, length, ap, inr, refl, sym, rules}
use Rattle.auction_rules.specs.declared.Event.{Event}
use Rattle.auction_rules.specs.declared.Event.TheVariants.{Submit}
use Rattle.auction_rules.specs.State.{DeskState, reply_in, state_with}
use Rattle.bid_desk.specs.DeskValue.{desk_value}
use Rattle.bid_desk.specs.Lists.{lists_with}
use Rattle.bid_desk.proofs.DeskLaws.{reached-next}
use Rattle.bid_desk.proofs.SealedLaws.{known-place, submit-state}
use Rattle.bid_desk.proofs.desk.Desk.submit_list.Goals as goal

pub invariant_of-self-2 : goal.invariant_of-self-2
invariant_of-self-2 c =
    let submitted : c.submit.new.self ≡ lists_with c.index_mut-lists.result.now.drafts c.index_mut-lists.result.now.drafts = search rules in
    let line : Event = Submit c.args.bidder in
    let old : DeskState = desk_value c.self.inside.award c.self.inside.clock c.self.inside.closed c.self.inside.bidders.items in
    let inside : c.args.bidder - 1 < length c.self.inside.bidders.items
    = known-place c.self.inside.award c.self.inside.clock c.self.inside.closed c.self.inside.bidders.items c.args.bidder _ c.self.view_is c.requires.known in (
      c.self.invariant.0,
      reached-next old _ line c.self.invariant.1 tt refl
          (submit-state c.self.inside.award c.self.inside.clock c.self.inside.closed c.self.inside.bidders.items c.args.bidder _ c.index_mut-lists.result.now
          c.submit.new.self
          (ap (λ (s : DeskState). reply_in s line) c.self.view_is ∙ c.requires.admitted) inside c.index_mut-lists.ensures.value submitted),
      c.self.invariant.2,
      c.self.invariant.3,
    )

pub returns : goal.returns
returns c =
    let submitted : c.submit.new.self ≡ lists_with c.index_mut-lists.result.now.drafts c.index_mut-lists.result.now.drafts = search rules in
    let line : Event = Submit c.args.bidder in
    let inside : c.args.bidder - 1 < length c.self.inside.bidders.items
    = known-place c.self.inside.award c.self.inside.clock c.self.inside.closed c.self.inside.bidders.items c.args.bidder _ c.self.view_is c.requires.known in
    inr (record {
      reply = sym c.requires.admitted;
      state = submit-state c.self.inside.award c.self.inside.clock c.self.inside.closed c.self.inside.bidders.items c.args.bidder _
          c.index_mut-lists.result.now c.submit.new.self
          (ap (λ (s : DeskState). reply_in s line) c.self.view_is ∙ c.requires.admitted) inside c.index_mut-lists.ensures.value submitted
          ∙ ap (λ (s : DeskState). state_with s line) c.self.view_is;
    })
