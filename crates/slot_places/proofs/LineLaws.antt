-- The lines of slots: they have no line feed, and each says one thing.
use Rattle.std.proofs.Common.{inl, inr, ◌≡◌, ℕ, ◌≤◌, ◌<◌, ◌+◌, ◌^◌, List, [], ◌∷◌, ◌++◌, get_or, refl, sym, ap, ◌∙◌, arith, subst}
use Rattle.std.specs.Prelude.{codes}
use Rattle.std.specs.Fmt.{decimal}
use Rattle.std.proofs.lemmas.List.{append_cancel_left}
use Rattle.wide_num.proofs.Decimal.{decimal_one}
use Rattle.line_format.specs.LineText.{IsLine}
use Rattle.book_grammar.specs.BookForm.{IsName}
use Rattle.book_grammar.proofs.NameLaws.{name_own}
use Rattle.bid_book.proofs.Spelled.{name_line, number_line}
use Rattle.line_format.proofs.Lines.{line_append}
use Rattle.line_format.proofs.DecimalFields.{NoSpace, number_own, one_field}
use Rattle.bid_book.proofs.OneLine.{end_no_bidder}
use Rattle.slot_places.specs.Slots.{SlotBid, SlotList}
use Rattle.slot_places.specs.SlotForm.{band_line, bidder_line, place_line}
use Rattle.slot_places.specs.Stages.{with_bid, bidder_with, with_bidders, IsEntrant, AddsBidder, AddsPlace, Adds}

-- the first line has no line feed
pub slots_word : IsLine (codes "slots 1")
slots_word = (
  (λ is. absurd (omega arith)),
  (
    (λ is. absurd (omega arith)),
    (
      (λ is. absurd (omega arith)),
      ((λ is. absurd (omega arith)), ((λ is. absurd (omega arith)), ((λ is. absurd (omega arith)), ((λ is. absurd (omega arith)), tt)))),
    ),
  ),
)

band_word : IsLine (codes "band ")
band_word = (
  (λ is. absurd (omega arith)),
  (
    (λ is. absurd (omega arith)),
    (
      (λ is. absurd (omega arith)),
      ((λ is. absurd (omega arith)), ((λ is. absurd (omega arith)), tt)),
    ),
  ),
)

bidder_word : IsLine (codes "bidder ")
bidder_word = (
  (λ is. absurd (omega arith)),
  (
    (λ is. absurd (omega arith)),
    (
      (λ is. absurd (omega arith)),
      ((λ is. absurd (omega arith)), ((λ is. absurd (omega arith)), ((λ is. absurd (omega arith)), ((λ is. absurd (omega arith)), tt)))),
    ),
  ),
)

place_word : IsLine (codes "place ")
place_word = (
  (λ is. absurd (omega arith)),
  (
    (λ is. absurd (omega arith)),
    (
      (λ is. absurd (omega arith)),
      ((λ is. absurd (omega arith)), ((λ is. absurd (omega arith)), ((λ is. absurd (omega arith)), tt))),
    ),
  ),
)

-- the last line has no line feed
pub end_word : IsLine (codes "end")
end_word = ((λ is. absurd (omega arith)), ((λ is. absurd (omega arith)), ((λ is. absurd (omega arith)), tt)))

behind_space : (n : ℕ) → n < 2 ^ 120 → IsLine (32 ∷ decimal n)
behind_space n small = ((λ is. absurd (omega arith)), number_line n small)

-- the line of a band has no line feed
pub band_feeds : (n : ℕ) → n ≤ 999 → IsLine (band_line n).0
band_feeds n low = line_append (codes "band ") (decimal n) band_word (number_line n (omega (arith, low)))

-- the line of a bidder has no line feed
pub bidder_feeds : (before : ℕ) (name : List ℕ) (width : ℕ) → IsName name → width ≤ 999 → IsLine (bidder_line before name width).0
bidder_feeds before name width is low =
    line_append (codes "bidder ") (name ++ 32 ∷ decimal width) bidder_word (line_append name (32 ∷ decimal width) (name_line name is)
    (behind_space width (omega (arith, low))))

-- the line of a bid has no line feed
pub place_feeds : (b : SlotBid) → b.start ≤ 1000 → b.amount ≤ 2 ^ 42 → IsLine (place_line b).0
place_feeds b low top =
    line_append (codes "place ") (decimal b.start ++ 32 ∷ decimal b.amount) place_word
    (line_append (decimal b.start) (32 ∷ decimal b.amount) (number_line b.start (omega (arith, low))) (behind_space b.amount (omega (arith, top))))

-- two fields are distinguished by the first space
pub two_parts : (a b x y : List ℕ) → NoSpace a → NoSpace b → a ++ 32 ∷ x ≡ b ++ 32 ∷ y → (a ≡ b) × (x ≡ y)
two_parts a b x y na nb is =
    let parts = one_field a b (32 ∷ x) (32 ∷ y) na nb refl refl is in
    let rest : 32 ∷ x ≡ 32 ∷ y = parts.1 in
    (parts.0, cc rest)

-- the line of a band states one band
pub band_one : (m n : ℕ) → m ≤ 999 → n ≤ 999 → (band_line m).0 ≡ (band_line n).0 → m ≡ n
band_one m n a b is = decimal_one m n (omega (arith, a)) (omega (arith, b)) (append_cancel_left (codes "band ") (decimal m) (decimal n) is)

-- the fields of a bidder's line state one bidder
pub entrant_one : (slots : SlotList) (fields m n : List ℕ) (v w : ℕ) → slots.band ≤ 999 → IsEntrant slots fields m v → IsEntrant slots fields n w
    → (m ≡ n) × (v ≡ w)
entrant_one slots fields m n v w low a b =
    let parts = two_parts m n (decimal v) (decimal w) (name_own m a.valid) (name_own n b.valid) (sym a.spelled ∙ b.spelled) in
    (parts.0, decimal_one v w (let r = a.room in omega (arith, r, low)) (let r = b.room in omega (arith, r, low)) parts.1)

-- a bid's line states one bid
pub place_one : (band : ℕ) (a b : SlotBid) → band ≤ 999 → a.start ≤ band + 1 → b.start ≤ band + 1 → a.amount ≤ 2 ^ 42 → b.amount ≤ 2 ^ 42
    → (place_line a).0 ≡ (place_line b).0 → a ≡ b
place_one band a b low sa sb ta tb is =
    let behind = append_cancel_left (codes "place ") (decimal a.start ++ 32 ∷ decimal a.amount) (decimal b.start ++ 32 ∷ decimal b.amount) is in
    let parts = two_parts (decimal a.start) (decimal b.start) (decimal a.amount) (decimal b.amount) (number_own a.start (omega (arith, sa, low)))
    (number_own b.start (omega (arith, sb, low))) behind in
    let starts = decimal_one a.start b.start (omega (arith, sa, low)) (omega (arith, sb, low)) parts.0 in
    let amounts = decimal_one a.amount b.amount (omega (arith, ta)) (omega (arith, tb)) parts.1 in
    λ i. record { start = starts i; amount = amounts i }

-- a line is of one kind
pub end_no_place : (l fields : List ℕ) → l ≡ codes "end" → l ≡ codes "place " ++ fields → ⊥
end_no_place l fields a b = omega (arith, ap (λ (x : List ℕ). get_or x 0 0) (sym a ∙ b))

-- no line is both a bidder's and a bid's
pub bidder_no_place : (l fields other : List ℕ) → l ≡ codes "bidder " ++ fields → l ≡ codes "place " ++ other → ⊥
bidder_no_place l fields other a b = omega (arith, ap (λ (x : List ℕ). get_or x 0 0) (sym a ∙ b))

-- the last line adds no entry
pub end_adds_none : (old new : SlotList) (l : List ℕ) → l ≡ codes "end" → Adds old new l → ⊥
end_adds_none old new l last (inl adds) = end_no_bidder l adds.fields last adds.line_is
end_adds_none old new l last (inr adds) = end_no_place l (decimal adds.bid.start ++ 32 ∷ decimal adds.bid.amount) last adds.next.spelled

two_bidders : (old a b : SlotList) (l : List ℕ) → old.band ≤ 999 → AddsBidder old a l → AddsBidder old b l → a ≡ b
two_bidders old a b l low x y =
    let same = append_cancel_left (codes "bidder ") x.fields y.fields (sym x.line_is ∙ y.line_is) in
    let one = entrant_one old y.fields x.name y.name x.width y.width low (subst (λ (f : List ℕ). IsEntrant old f x.name x.width) same x.entrant) y.entrant in
    x.new_is ∙ (λ i. with_bidders old (old.bidders ++ bidder_with (one.0 i) (one.1 i) [] ∷ [])) ∙ sym y.new_is

two_places : (old a b : SlotList) (l : List ℕ) → old.band ≤ 999 → AddsPlace old a l → AddsPlace old b l → a ≡ b
two_places old a b l low x y =
    let v = x.next.valid in
    let w = y.next.valid in
    let sv = v.within in
    let sw = w.within in
    let same = place_one old.band x.bid y.bid low (omega (arith, sv)) (omega (arith, sw)) v.top w.top (sym x.next.spelled ∙ y.next.spelled) in
    x.new_is ∙ ap (with_bid old) same ∙ sym y.new_is

-- a line adds only one entry to slots
pub new_one : (old a b : SlotList) (l : List ℕ) → old.band ≤ 999 → Adds old a l → Adds old b l → a ≡ b
new_one old a b l low (inl x) (inl y) = two_bidders old a b l low x y
new_one old a b l low (inl x) (inr y) = absurd (bidder_no_place l x.fields (decimal y.bid.start ++ 32 ∷ decimal y.bid.amount) x.line_is y.next.spelled)
new_one old a b l low (inr x) (inl y) = absurd (bidder_no_place l y.fields (decimal x.bid.start ++ 32 ∷ decimal x.bid.amount) y.line_is x.next.spelled)
new_one old a b l low (inr x) (inr y) = two_places old a b l low x y
