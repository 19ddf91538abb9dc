-- What the fields hold after a bidder or a bid more.
use Rattle.std.proofs.Common.{◌≡◌, ℕ, ◌-◌, ◌<◌, List, [], ◌∷◌, ◌++◌, length, get_or, set, sym, ap, subst, ◌∙◌, arith, Vec, Global}
use Rattle.std.specs.Prelude.{map}
use Rattle.std.specs.Vec.{with_item}
use Rattle.std.proofs.lemmas.List.{map-append, map-set, get_or-map, set-get_or}
use Rattle.slot_places.specs.Slots.{SlotBidder, SlotList, bidder_of}
use Rattle.slot_places.specs.declared.slots.Place.{Place}
use Rattle.slot_places.specs.declared.slots.BandBidder.{BandBidder}
use Rattle.slot_places.specs.declared.slots.Slots.TheInside.{Inside}
use Rattle.slot_places.specs.Fields.{bid_value, bidder_value, slots_value}
use Rattle.slot_places.specs.Stages.{bidder_with, with_bidders, with_bid}
use Rattle.slot_places.proofs.ReadLaws.{bidders-read, bidder-read}

-- the fields with these bidders
abbrev pub with_fields : Inside → Vec BandBidder Global → Inside
with_fields s bidders = record { band = s.band; bidders = bidders }

-- fields with a bidder more, without bids, hold the slots with that bidder
pub bidder_added : (s : Inside) (slots : SlotList) (made : BandBidder) (bidders : Vec BandBidder Global) → slots_value s ≡ slots
    → bidders.items ≡ s.bidders.items ++ made ∷ [] → made.places.items ≡ []
    → slots_value (with_fields s bidders) ≡ with_bidders slots (slots.bidders ++ bidder_with made.name made.width [] ∷ [])
bidder_added s slots made bidders is pushed none =
    let own : bidder_value made ≡ bidder_with made.name made.width [] = ap (λ (l : List Place). bidder_with made.name made.width (map bid_value l)) none in
    let items : map bidder_value bidders.items ≡ map bidder_value s.bidders.items ++ bidder_with made.name made.width [] ∷ [] =
    ap (map bidder_value) pushed ∙ map-append bidder_value s.bidders.items (made ∷ []) ∙ ap (λ (x : SlotBidder). map bidder_value s.bidders.items ++ x ∷ [])
    own in
    ap (with_bidders (slots_value s)) items ∙ ap (λ (x : SlotList). with_bidders x (x.bidders ++ bidder_with made.name made.width [] ∷ [])) is

module _ (s : Inside) (last : ℕ) (last_is : last ≡ length s.bidders.items) (some : 0 < length s.bidders.items) (old : BandBidder)
    (read : old ≡ get_or s.bidders.items (last - 1) old) (places : Vec Place Global) where
  -- the last bidder has these bids
  abbrev pub changed : Inside
  changed = with_fields s (with_item s.bidders (last - 1) (record { name = old.name; width = old.width; places = places }))

  value_at : get_or (map bidder_value s.bidders.items) (last - 1) (bidder_value old) ≡ bidder_value old
  value_at = get_or-map bidder_value s.bidders.items (last - 1) old (bidder_value old) (omega arith) ∙ ap bidder_value (sym read)

  changed_is : (own : SlotBidder) → bidder_with old.name old.width (map bid_value places.items) ≡ own
      → slots_value changed ≡ with_bidders (slots_value s) (set (map bidder_value s.bidders.items) (last - 1) own)
  changed_is own is =
      ap (with_bidders (slots_value s)) (map-set bidder_value s.bidders.items (last - 1) (record { name = old.name; width = old.width; places = places })
      ∙ ap (set (map bidder_value s.bidders.items) (last - 1)) is)

  -- no bid came
  pub places_same : places.items ≡ old.places.items → slots_value changed ≡ slots_value s
  places_same same =
      let own : bidder_with old.name old.width (map bid_value places.items) ≡ bidder_value old =
      ap (λ (l : List Place). bidder_with old.name old.width (map bid_value l)) same in
      changed_is (bidder_value old) own ∙ ap (with_bidders (slots_value s)) (ap (set (map bidder_value s.bidders.items) (last - 1)) (sym value_at)
      ∙ set-get_or (map bidder_value s.bidders.items) (last - 1) (bidder_value old))

  -- a bid came
  pub place_pushed : (slots : SlotList) (place : Place) → slots_value s ≡ slots → places.items ≡ old.places.items ++ place ∷ []
      → slots_value changed ≡ with_bid slots (bid_value place)
  place_pushed slots place is pushed =
      let count = bidders-read s slots is in
      let read_last : bidder_of slots (length slots.bidders) ≡ bidder_value old =
      bidder-read s slots is (length slots.bidders) (omega (arith, count)) (omega (arith, some, count)) old
      (subst (λ (k : ℕ). old ≡ get_or s.bidders.items (k - 1) old) (last_is ∙ count) read) in
      let own : bidder_with old.name old.width (map bid_value places.items) ≡ bidder_with old.name old.width
      (map bid_value old.places.items ++ bid_value place ∷ []) =
      ap (bidder_with old.name old.width) (ap (map bid_value) pushed ∙ map-append bid_value old.places.items (place ∷ [])) in
      changed_is (bidder_with old.name old.width (map bid_value old.places.items ++ bid_value place ∷ [])) own
      ∙ ap (λ (k : ℕ). with_bidders (slots_value s) (set (map bidder_value s.bidders.items) (k - 1)
      (bidder_with old.name old.width (map bid_value old.places.items ++ bid_value place ∷ [])))) (last_is ∙ count)
      ∙ ap (λ (x : SlotList). with_bidders x (set x.bidders (length slots.bidders - 1)
      (bidder_with old.name old.width (map bid_value old.places.items ++ bid_value place ∷ [])))) is
      ∙ ap (λ (x : SlotBidder). with_bidders slots (set slots.bidders (length slots.bidders - 1)
      (bidder_with x.name x.width (x.bids ++ bid_value place ∷ [])))) (sym read_last)
