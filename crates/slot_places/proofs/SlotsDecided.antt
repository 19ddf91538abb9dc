-- Whether a line of slots leads on is known at each stage.
use Rattle.std.proofs.Common.{inl, inr, ◌≡◌, ◌≢◌, ℕ, ◌+◌, ◌≤◌, List, [], ◌∷◌, ◌++◌, length, take, refl, sym, ap, subst, ◌∙◌, arith, length-append}
use Rattle.std.specs.Prelude.{codes}
use Rattle.std.specs.Fmt.{decimal}
use Rattle.std.proofs.lemmas.List.{append_cancel_left, take_at}
use Rattle.bid_book.proofs.BookDecided.{decided_name}
use Rattle.limits.specs.declared.TheConstants.{MOST_AMOUNT, MOST_COUNT}
use Rattle.line_format.proofs.Decided.{Decided, StepsDecided, after_word, decided_all, decided_as, decided_both, decided_le, decided_lt, decided_not}
use Rattle.line_format.proofs.Decided.{decided_same, decided_three, some_below}
use Rattle.slot_places.specs.SlotForm.{band_line, place_line, width_together}
use Rattle.slot_places.specs.Slots.{SlotBid, SlotList}
use Rattle.slot_places.specs.Stages.{AddsBidder, AddsPlace, IsEntrant, IsNextPlace, Step, bidder_with, last_width, opened, start_before, with_bid, with_bidders}
use Rattle.slot_places.specs.declared.read.Stage.{Stage}
use Rattle.slot_places.specs.declared.read.Stage.TheVariants.{Start, Headed, Listing, Ended}
use Rattle.slot_places.proofs.Reading.{IsSound, finish}

decided_entrant : (slots : SlotList) (fields name : List ℕ) (width : ℕ) → Decided (IsEntrant slots fields name width)
decided_entrant slots fields name width =
    decided_as
    (decided_both (decided_three (decided_same fields (name ++ 32 ∷ decimal width)) (decided_name name)
    (decided_all (λ b. b.name ≢ name) (λ b. decided_not (decided_same b.name name)) slots.bidders))
    (decided_both (decided_le 1 width) (decided_le (width_together slots.bidders + width) slots.band)))
    (λ all. record { spelled = all.0.0; valid = all.0.1; unused = all.0.2; some = all.1.0; room = all.1.1 })
    (λ is. ((is.spelled, is.valid, is.unused), (is.some, is.room)))

-- the first k of the fields are the name of a bidder of some width
abbrev NamesEntrant : SlotList → List ℕ → ℕ → Type 0
NamesEntrant slots fields k = (width : ℕ) × (width ≤ slots.band) × IsEntrant slots fields (take k fields) width

entrant_named : (slots : SlotList) (fields name : List ℕ) (width : ℕ) → IsEntrant slots fields name width
    → (k : ℕ) × (k ≤ length fields) × NamesEntrant slots fields k
entrant_named slots fields name width is =
    let front : take (length name) fields ≡ name = ap (take (length name)) is.spelled ∙ take_at name (32 ∷ decimal width) (length name) refl in
    let room = is.room in (
      length name,
      omega (arith, ap length is.spelled, length-append name (32 ∷ decimal width)),
      (width, omega (arith, room), subst (λ (n : List ℕ). IsEntrant slots fields n width) (sym front) is),
    )

-- that a line adds a bidder to slots
bidder_known : (slots : SlotList) (line : List ℕ) → Decided ((new : SlotList) × AddsBidder slots new line)
bidder_known slots line = by (after_word (codes "bidder ") line)
  where
    by : Decided ((fields : List ℕ) × (line ≡ codes "bidder " ++ fields)) → Decided ((new : SlotList) × AddsBidder slots new line)
    by (inr never) = inr (λ found. never (found.1.fields, found.1.line_is))
    by (inl (fields, is)) =
        decided_as
        (some_below (length fields) (NamesEntrant slots fields) (λ k. some_below slots.band (IsEntrant slots fields (take k fields))
        (decided_entrant slots fields (take k fields))))
        (λ found. (
          with_bidders slots (slots.bidders ++ bidder_with (take found.0 fields) found.2.0 [] ∷ []),
          record { name = take found.0 fields; width = found.2.0; fields = fields; line_is = is; entrant = found.2.2; new_is = refl },
        ))
        (λ found. (
        let adds = found.1 in
        let same : adds.fields ≡ fields = append_cancel_left (codes "bidder ") adds.fields fields (sym adds.line_is ∙ is) in
        entrant_named slots fields adds.name adds.width (subst (λ (f : List ℕ). IsEntrant slots f adds.name adds.width) same adds.entrant)
        ))

decided_place : (slots : SlotList) (line : List ℕ) (bid : SlotBid) → Decided (IsNextPlace slots line bid)
decided_place slots line bid =
    decided_as
    (decided_both (decided_same line (place_line bid).0)
    (decided_three (decided_lt (start_before slots) bid.start) (decided_le (bid.start + last_width slots) (slots.band + 1))
    (decided_le bid.amount MOST_AMOUNT)))
    (λ all. record { spelled = all.0; valid = record { after = all.1.0; within = all.1.1; top = all.1.2 } })
    (λ is. (is.spelled, (is.valid.after, is.valid.within, is.valid.top)))

-- the line states a bid for this start
abbrev PlacesAt : SlotList → List ℕ → ℕ → Type 0
PlacesAt slots line start = (amount : ℕ) × (amount ≤ MOST_AMOUNT) × IsNextPlace slots line (record { start = start; amount = amount })

-- that it adds a bid
place_known : (slots : SlotList) (line : List ℕ) → Decided ((new : SlotList) × AddsPlace slots new line)
place_known slots line =
    decided_as
    (decided_both (decided_lt 0 (length slots.bidders)) (some_below (slots.band + 1) (PlacesAt slots line)
    (λ start. some_below MOST_AMOUNT (λ amount. IsNextPlace slots line (record { start = start; amount = amount }))
    (λ amount. decided_place slots line (record { start = start; amount = amount })))))
    (λ both. (
      with_bid slots (record { start = both.1.0; amount = both.1.2.0 }),
      record { bid = record { start = both.1.0; amount = both.1.2.0 }; some = both.0; next = both.1.2.2; new_is = refl },
    ))
    (λ found. (
    let adds = found.1 in
    let within = adds.next.valid.within in
    (adds.some, (adds.bid.start, omega (arith, within), (adds.bid.amount, adds.next.valid.top, adds.next)))
    ))

-- whether a line leads on from a stage
pub leads : StepsDecided IsSound Step
leads Start l sound = decided_as (decided_same l (codes "slots 1")) (λ is. (Headed, (is, refl))) (λ found. found.1.0)
leads Headed l sound =
    decided_as (some_below MOST_COUNT (λ band. (1 ≤ band) × (l ≡ (band_line band).0))
    (λ band. decided_both (decided_le 1 band) (decided_same l (band_line band).0)))
    (λ found. (Listing (opened found.0), (found.0, found.2.1, (found.2.0, found.1), refl))) (λ found. (found.1.0, found.1.2.1, (found.1.2.0, found.1.1)))
leads (Listing slots) l sound = by (decided_same l (codes "end")) (bidder_known slots l) (place_known slots l)
  where
    neither : (l ≡ codes "end" → ⊥) → ((new : SlotList) × AddsBidder slots new l → ⊥) → ((new : SlotList) × AddsPlace slots new l → ⊥) → (t : Stage)
        → Step (Listing slots) l t → ⊥
    neither end bidder bid t (inl last) = end last.0
    neither end bidder bid t (inr (new, inl adds, is)) = bidder (new, adds)
    neither end bidder bid t (inr (new, inr adds, is)) = bid (new, adds)

    by : Decided (l ≡ codes "end") → Decided ((new : SlotList) × AddsBidder slots new l) → Decided ((new : SlotList) × AddsPlace slots new l)
        → Decided ((t : Stage) × Step (Listing slots) l t)
    by (inl is) bidder bid = inl (Ended slots, inl (is, refl))
    by (inr end) (inl (new, adds)) bid = inl (Listing new, inr (new, inl adds, refl))
    by (inr end) (inr bidder) (inl (new, adds)) = inl (Listing new, inr (new, inr adds, refl))
    by (inr end) (inr bidder) (inr bid) = inr (λ found. neither end bidder bid found.0 found.1)
leads (Ended slots) l sound = inr (λ found. found.1)

-- whether it is the end of slots
pub ends : (s : Stage) → Decided ((slots : SlotList) × (s ≡ finish slots))
ends Start = inr (λ found. absurd (cc found.1))
ends Headed = inr (λ found. absurd (cc found.1))
ends (Listing slots) = inr (λ found. absurd (cc found.1))
ends (Ended slots) = inl (slots, refl)
