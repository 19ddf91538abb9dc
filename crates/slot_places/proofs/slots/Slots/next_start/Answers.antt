use Rattle.std.proofs.Common.{◌≡◌, ◌∙◌, ◌+◌, ap, arith, sym, length, ℕ}
use Rattle.slot_places.specs.Slots.{bids_of}
use Rattle.slot_places.specs.Stages.{last_start}
use Rattle.slot_places.proofs.Within.{start_last}
use Rattle.slot_places.proofs.slots.Slots.next_start.Goals as goal

pub returns : goal.returns
returns c =
    let slots = c.args.self.now in
    let last : c.bidders-last_bidder.result ≡ length slots.bidders = c.bidders-last_bidder.ensures.bidders in
    let own = start_last slots c.bidders-last_bidder.result c.places-last.result c.places-last.ensures.bids (omega arith) in
    ap (λ (n : ℕ). n + 1) (c.place-place.ensures.start ∙ sym own ∙ ap (λ (j : ℕ). last_start 0 (bids_of slots j)) last)
