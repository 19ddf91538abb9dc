-- The drop is one more line of the log that the desk stands for.
use Rattle.std.proofs.Common.{◌≡◌, ◌∙◌, ◌-◌, ◌<◌, length, ap, refl, sym, rules}
use Rattle.auction_rules.specs.declared.Event.{Event}
use Rattle.auction_rules.specs.declared.Event.TheVariants.{Drop}
use Rattle.auction_rules.specs.declared.Reply.TheVariants as reply
use Rattle.auction_rules.specs.State.{DeskState, reply_in, state_with}
use Rattle.bid_desk.specs.DeskValue.{desk_value}
use Rattle.bid_desk.proofs.DeskLaws.{reached-next}
use Rattle.bid_desk.proofs.SealedLaws.{drop-state, known-place}
use Rattle.bid_desk.proofs.desk.Desk.drop_draft.Goals as goal

pub invariant_of-self : goal.invariant_of-self
invariant_of-self c =
    let is : c.reply_to_drop-reply.result ≡ reply.Ok = search rules in
    let line : Event = Drop c.args.bidder c.args.«package».now in
    let old : DeskState = desk_value c.self.inside.award c.self.inside.clock c.self.inside.closed c.self.inside.bidders.items in
    let inside : c.args.bidder - 1 < length c.self.inside.bidders.items
    = known-place c.self.inside.award c.self.inside.clock c.self.inside.closed c.self.inside.bidders.items c.args.bidder _ c.self.view_is
    (c.reply_to_drop-reply.ensures.known is) in (
      c.self.invariant.0,
      reached-next old _ line c.self.invariant.1 (c.requires ∙ ap (λ (s : DeskState). length s.terms.supply) (sym c.self.view_is)) refl
          (drop-state c.self.inside.award c.self.inside.clock c.self.inside.closed c.self.inside.bidders.items c.args.bidder c.args.«package».now _
          c.index_mut-lists.result.now c.remove.new.self
          (ap (λ (s : DeskState). reply_in s line) c.self.view_is ∙ sym c.reply_to_drop-reply.ensures.reply ∙ is) inside c.index_mut-lists.ensures.value
          c.remove.ensures),
      c.self.invariant.2,
      c.self.invariant.3,
    )

pub returns-then-matches : goal.returns-then-matches
returns-then-matches c =
    let is : c.reply_to_drop-reply.result ≡ reply.Ok = search rules in
    let line : Event = Drop c.args.bidder c.args.«package».now in
    let inside : c.args.bidder - 1 < length c.self.inside.bidders.items
    = known-place c.self.inside.award c.self.inside.clock c.self.inside.closed c.self.inside.bidders.items c.args.bidder _ c.self.view_is
    (c.reply_to_drop-reply.ensures.known is) in
    record {
      reply = c.reply_to_drop-reply.ensures.reply;
      state = drop-state c.self.inside.award c.self.inside.clock c.self.inside.closed c.self.inside.bidders.items c.args.bidder c.args.«package».now _
          c.index_mut-lists.result.now c.remove.new.self
          (ap (λ (s : DeskState). reply_in s line) c.self.view_is ∙ sym c.reply_to_drop-reply.ensures.reply ∙ is) inside c.index_mut-lists.ensures.value
          c.remove.ensures
          ∙ ap (λ (s : DeskState). state_with s line) c.self.view_is;
    }
