use Rattle.std.proofs.Common.{◌≡◌, ◌≢◌, ◌∙◌, sym, ap, subst}
use Rattle.std.specs.List.{AllByRecursion, list_any}
use Rattle.std.specs.Str.{bytes_eq}
use Rattle.slot_places.specs.Slots.{SlotBidder, SlotList}
use Rattle.slot_places.specs.declared.slots.BandBidder.{BandBidder}
use Rattle.slot_places.proofs.EntryLaws.{none_named}
use Rattle.slot_places.proofs.slots.Slots.has_bidder.Goals as goal

pub returns : goal.returns
returns c =
    let name = c.args.name.now in
    let items = c.self.inside.bidders.items in
    let found : c.is_named.result ≡ list_any (λ (b : BandBidder). bytes_eq b.name name) items =
    c.is_named.ensures ∙ ap (list_any (λ (b : BandBidder). bytes_eq b.name name)) c.deref.ensures.value in
    let free = λ (s : SlotList). AllByRecursion (λ (b : SlotBidder). b.name ≢ name) s.bidders in (
      λ is. subst free c.self.view_is ((none_named name items).0 (sym found ∙ is)),
      λ all. found ∙ (none_named name items).1 (subst free (sym c.self.view_is) all),
    )
