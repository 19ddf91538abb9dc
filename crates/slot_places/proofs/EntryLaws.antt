-- What the lines of bidders and bids say.
use Rattle.std.proofs.Common.{inl, inr, ◌≡◌, ◌≢◌, ℕ, ◌+◌, ◌≤◌, ◌<◌, false, Some, None, List, [], ◌∷◌, ◌++◌, length, map, refl, sym, ap, subst, ◌∙◌, arith}
use Rattle.std.specs.Prelude.{codes, ◌↔◌}
use Rattle.std.specs.Fmt.{decimal}
use Rattle.std.specs.List.{AllByRecursion, list_any}
use Rattle.std.specs.Str.{bytes_eq}
use Rattle.std.proofs.lemmas.Bool.{cases_Bool, false≢true}
use Rattle.std.proofs.lemmas.Bool.Decides.{nat_tests}
use Rattle.std.proofs.lemmas.List.{append_cancel_left}
use Rattle.std.proofs.lemmas.Slice.Eq.{bytes_eq-Decides}
use Rattle.line_format.proofs.DecimalFields.{NoSpace, number_own, one_field}
use Rattle.line_format.specs.Fields.{FieldEnds}
use Rattle.book_grammar.specs.BookForm.{IsName}
use Rattle.limits.specs.declared.LimitKind.TheVariants.{Bidders, Lots}
use Rattle.slot_places.specs.Fields.{bidder_value}
use Rattle.slot_places.specs.Slots.{SlotBid, SlotBidder, SlotList}
use Rattle.slot_places.specs.SlotForm.{width_together, band_excess, bidder_excess}
use Rattle.slot_places.specs.declared.read.Stage.{Stage}
use Rattle.slot_places.specs.declared.slots.BandBidder.{BandBidder}
use Rattle.slot_places.specs.declared.read.Stage.TheVariants.{Listing}
use Rattle.slot_places.specs.Stages.{Step, Adds, AddsBidder, AddsPlace, IsEntrant, IsNextPlace, bidder_with, with_bidders, with_bid}
use Rattle.book_grammar.proofs.NameLaws.{name_own}
use Rattle.slot_places.proofs.LineLaws.{bidder_no_place, two_parts}

-- a text whose first field ends without a space has one field
pub one_only : (text field behind : List ℕ) → text ≡ field ++ behind → NoSpace field → FieldEnds behind → ((more : List ℕ) → behind ≡ codes " " ++ more → ⊥)
    → (first second : List ℕ) → NoSpace first → text ≡ first ++ 32 ∷ second → ⊥
one_only text field behind whole own ends other first second first_own is =
    let parts = one_field field first behind (32 ∷ second) own first_own ends refl (sym whole ∙ is) in
    other second parts.1

-- a band of more than 40 slots exceeds the limit of lots
pub many_lots : (n : ℕ) → 40 < n → band_excess n ≡ Some (Lots, n)
many_lots n many = grind (arith, nat_tests)

-- a band of at most 40 slots exceeds no limit
pub few_lots : (n : ℕ) → n ≤ 40 → band_excess n ≡ None
few_lots n few = grind (arith, nat_tests)

-- a bidder after six or more exceeds the limit of bidders
pub many_bidders : (n : ℕ) → 6 ≤ n → bidder_excess (n + 1) ≡ Some (Bidders, 7)
many_bidders n many = grind (arith, nat_tests)

-- a bidder after fewer than six exceeds no limit
pub few_bidders : (n : ℕ) → n < 6 → bidder_excess (n + 1) ≡ None
few_bidders n few = grind (arith, nat_tests)

-- a search for the name finds nothing exactly if no bidder has it
pub none_named : (name : List ℕ) (bidders : List BandBidder)
    → list_any (λ (b : BandBidder). bytes_eq b.name name) bidders ≡ false ↔ AllByRecursion (λ (b : SlotBidder). b.name ≢ name) (map bidder_value bidders)
none_named name [] = (λ _. tt, λ _. refl)
none_named name (b ∷ bidders) =
    elim (cases_Bool (bytes_eq b.name name)) [
      | inl same ↦ rw same (λ is. absurd (false≢true (sym is)), λ all. absurd (all.0 ((bytes_eq-Decides b.name name).0 same)))
      | inr other ↦ rw other (
        λ is. (λ here. false≢true (sym other ∙ (bytes_eq-Decides b.name name).1 here), (none_named name bidders).0 is),
        λ all. (none_named name bidders).1 all.1,
      )
    ]

-- the line of a bidder, as what it adds
pub adds_entrant : (old : SlotList) (line fields name : List ℕ) (width : ℕ) → line ≡ codes "bidder " ++ fields → IsEntrant old fields name width
    → AddsBidder old (with_bidders old (old.bidders ++ bidder_with name width [] ∷ [])) line
adds_entrant old line fields name width spelled entrant = record {
  name = name;
  width = width;
  fields = fields;
  line_is = spelled;
  entrant = entrant;
  new_is =
      refl;
}

-- the fields after the word are those of the bidder
pub entrant_of : (old new : SlotList) (fields : List ℕ) (adds : AddsBidder old new (codes "bidder " ++ fields)) → IsEntrant old fields adds.name adds.width
entrant_of old new fields adds = subst (λ (f : List ℕ). IsEntrant old f adds.name adds.width)
    (sym (append_cancel_left (codes "bidder ") fields adds.fields adds.line_is)) adds.entrant

-- what the fields of a bidder's line are
pub entrant_fields : (slots : SlotList) (fields first second name : List ℕ) (width : ℕ) → fields ≡ first ++ 32 ∷ second → NoSpace first
    → IsEntrant slots fields name width → (name ≡ first) × (second ≡ decimal width)
entrant_fields slots fields first second name width is own e =
    let parts = two_parts name first (decimal width) second (name_own name e.valid) own (sym e.spelled ∙ is) in
    (parts.0, sym parts.1)

-- a valid name that isn't used, and a width that there is room for, make a bidder that may follow
pub made_entrant : (slots : SlotList) (fields first second text : List ℕ) (width room : ℕ) → fields ≡ first ++ 32 ∷ second → text ≡ first → IsName first
    → AllByRecursion (λ b. b.name ≢ text) slots.bidders
    → 1 ≤ width → width ≤ room → second ≡ decimal width → room + width_together slots.bidders ≡ slots.band → IsEntrant slots fields text width
made_entrant slots fields first second text width room is same valid unused some low spelled left =
    subst (λ (t : List ℕ). IsEntrant slots fields t width) (sym same)
    (record {
      spelled = is ∙ ap (λ (l : List ℕ). first ++ 32 ∷ l) spelled;
      valid = valid;
      unused = subst (λ (t : List ℕ). AllByRecursion (λ (b : SlotBidder). b.name ≢ t) slots.bidders) same unused;
      some = some;
      room = omega (arith, low, left);
    })

-- what the fields of a bid's line are
pub next_fields : (slots : SlotList) (line fields first second : List ℕ) (bid : SlotBid) → slots.band ≤ 40 → line ≡ codes "place " ++ fields
    → fields ≡ first ++ 32 ∷ second → NoSpace first → IsNextPlace slots line bid
    → (first ≡ decimal bid.start) × (second ≡ decimal bid.amount)
next_fields slots line fields first second bid low line_is is own next =
    let within = next.valid.within in
    let behind = append_cancel_left (codes "place ") fields (decimal bid.start ++ 32 ∷ decimal bid.amount) (sym line_is ∙ next.spelled) in
    let parts = two_parts first (decimal bid.start) second (decimal bid.amount) own (number_own bid.start (omega (arith, within, low))) (sym is ∙ behind) in
    (parts.0, parts.1)

-- a line without two fields after the word states no bid
pub no_fields : (slots : SlotList) (line fields : List ℕ) (bid : SlotBid) → slots.band ≤ 40 → line ≡ codes "place " ++ fields
    → ((first second : List ℕ) → NoSpace first → fields ≡ first ++ 32 ∷ second → ⊥) → IsNextPlace slots line bid → ⊥
no_fields slots line fields bid low line_is none next =
    let within = next.valid.within in
    none (decimal bid.start) (decimal bid.amount) (number_own bid.start (omega (arith, within, low)))
    (append_cancel_left (codes "place ") fields (decimal bid.start ++ 32 ∷ decimal bid.amount) (sym line_is ∙ next.spelled))

-- the line of a bid, as what it adds
pub adds_next : (old : SlotList) (line : List ℕ) (bid : SlotBid) → 0 < length old.bidders → IsNextPlace old line bid → AddsPlace old (with_bid old bid) line
adds_next old line bid some next = record { bid = bid; some = some; next = next; new_is = refl }

-- a line that begins so is a bidder's, and each other is a bid's

-- a line that begins with the word of a bidder adds a bidder
pub adds_named : (old new : SlotList) (line fields : List ℕ) → line ≡ codes "bidder " ++ fields → Adds old new line
    → AddsBidder old new (codes "bidder " ++ fields)
adds_named old new line fields is (inl adds) = subst (AddsBidder old new) is adds
adds_named old new line fields is (inr adds) = absurd (bidder_no_place line fields (decimal adds.bid.start ++ 32 ∷ decimal adds.bid.amount) is
    adds.next.spelled)

-- a line that doesn't begin so adds a bid
pub adds_unnamed : (old new : SlotList) (line : List ℕ) → ((fields : List ℕ) → line ≢ codes "bidder " ++ fields) → Adds old new line → AddsPlace old new line
adds_unnamed old new line other (inl adds) = absurd (other adds.fields adds.line_is)
adds_unnamed old new line other (inr adds) = adds

-- a line that isn't the last adds an entry
pub adds_step : (old : SlotList) (line : List ℕ) (t : Stage) → line ≢ codes "end" → Step (Listing old) line t → (new : SlotList) × Adds old new line
adds_step old line t other (inl last) = absurd (other last.0)
adds_step old line t other (inr step) = (step.0, step.1)
