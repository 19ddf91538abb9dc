-- The draft is one more line of the log that the desk stands for, unless there was no memory.
use Rattle.std.proofs.Common.{◌≡◌, ◌∙◌, ◌-◌, ◌<◌, length, ap, inr, refl, sym, rules}
use Rattle.auction_rules.specs.declared.Event.{Event}
use Rattle.auction_rules.specs.declared.Event.TheVariants.{Draft}
use Rattle.auction_model.specs.Entries.{with_entry}
use Rattle.auction_rules.specs.State.{DeskState, reply_in, state_with}
use Rattle.bid_desk.specs.DeskValue.{desk_value}
use Rattle.bid_desk.specs.Lists.{lists_with}
use Rattle.bid_desk.proofs.DeskLaws.{reached-next}
use Rattle.bid_desk.proofs.SealedLaws.{draft-state, known-place}
use Rattle.bid_desk.proofs.desk.Desk.put_draft.Goals as goal

pub invariant_of-self-2 : goal.invariant_of-self-2
invariant_of-self-2 c =
    let put : c.put.new.self ≡ lists_with (with_entry c.args.«package».now c.args.amount c.index_mut-lists.result.now.drafts)
    c.index_mut-lists.result.now.submitted = search rules in
    let line : Event = Draft c.args.bidder c.args.«package».now c.args.amount in
    let old : DeskState = desk_value c.self.inside.award c.self.inside.clock c.self.inside.closed c.self.inside.bidders.items in
    let inside : c.args.bidder - 1 < length c.self.inside.bidders.items
    = known-place c.self.inside.award c.self.inside.clock c.self.inside.closed c.self.inside.bidders.items c.args.bidder _ c.self.view_is c.requires.known in (
      c.self.invariant.0,
      reached-next old _ line c.self.invariant.1 (c.requires.categories ∙ ap (λ (s : DeskState). length s.terms.supply) (sym c.self.view_is)) refl
          (draft-state c.self.inside.award c.self.inside.clock c.self.inside.closed c.self.inside.bidders.items c.args.bidder c.args.«package».now
          c.args.amount _ c.index_mut-lists.result.now c.put.new.self
          (ap (λ (s : DeskState). reply_in s line) c.self.view_is ∙ c.requires.admitted) inside c.index_mut-lists.ensures.value put),
      c.self.invariant.2,
      c.self.invariant.3,
    )

pub returns : goal.returns
returns c =
    let put : c.put.new.self ≡ lists_with (with_entry c.args.«package».now c.args.amount c.index_mut-lists.result.now.drafts)
    c.index_mut-lists.result.now.submitted = search rules in
    let line : Event = Draft c.args.bidder c.args.«package».now c.args.amount in
    let inside : c.args.bidder - 1 < length c.self.inside.bidders.items
    = known-place c.self.inside.award c.self.inside.clock c.self.inside.closed c.self.inside.bidders.items c.args.bidder _ c.self.view_is c.requires.known in
    inr (record {
      reply = sym c.requires.admitted;
      state = draft-state c.self.inside.award c.self.inside.clock c.self.inside.closed c.self.inside.bidders.items c.args.bidder c.args.«package».now
          c.args.amount _ c.index_mut-lists.result.now c.put.new.self
          (ap (λ (s : DeskState). reply_in s line) c.self.view_is ∙ c.requires.admitted) inside c.index_mut-lists.ensures.value put
          ∙ ap (λ (s : DeskState). state_with s line) c.self.view_is;
    })
