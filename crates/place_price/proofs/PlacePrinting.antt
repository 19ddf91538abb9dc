-- The lines of a placement, put together piece by piece, and the certificates of which they can be printed.
use Rattle.std.proofs.Common.{Bool, IsTrue, List, [], ap, append_assoc, arith, cond, drop, get_or, inl, inr, length, not, pos, refl, subst, suc, sym}
use Rattle.std.proofs.Common.{take, true, zero, ℕ, ℤ, ◌++◌, ◌+◌, ◌-◌, ◌<◌, ◌∙◌, ◌∷◌, ◌≡◌, ◌≤ℤ◌, ◌≤◌}
use Rattle.std.specs.Prelude.{◌&&◌, ◌==◌, slice_index}
use Rattle.std.specs.List.{AllByRecursion}
use Rattle.std.proofs.lemmas.Bool.{and_parts, cases_Bool, eqb-true}
use Rattle.std.proofs.lemmas.Int.{ints}
use Rattle.std.proofs.lemmas.List.{drop_more, take_all}
use Rattle.auction_model.specs.Lowered.{of_bidder}
use Rattle.auction_model.specs.Market.{Market, number_of, uses}
use Rattle.cert_grammar.specs.Certificate.{CertValue}
use Rattle.cert_soundness.specs.MarketTests.{vickrey_in}
use Rattle.cert_soundness.specs.MarketPrices.{prices_in}
use Rattle.print_grammar.specs.Fractions.{IsFractionText}
use Rattle.auction_model.specs.Prices.{Point, everyone, sum_over}
use Rattle.placement_cert.specs.CertValues.{place_cert_value}
use Rattle.placement_cert.specs.declared.certificate.PlaceCertificate.{PlaceCertificate}
use Rattle.placement_check.specs.PlaceTests.{PlacementHolds}
use Rattle.slot_places.specs.Board.{board_of, is_known, joined, nobody}
use Rattle.slot_places.specs.Orders.{are_new, gives, is_order}
use Rattle.slot_places.specs.Slots.{SlotList, bid_of, bidder_of}
use Rattle.slot_places.proofs.OrderLaws.{new-parts}
use Rattle.place_price.specs.PlaceText.{ArePricedLines, priced_line}
use Rattle.place_price.specs.PlacePrintable.{CanPrint, IsBidder, IsLineOf, IsRestOf}

-- entries of an order are bidders
order-bidders : (n : ℕ) (s : ℕ → Bool) (order : List ℕ) → IsTrue (are_new n s order) → AllByRecursion (λ j. (0 < j) × (j ≤ n)) order
order-bidders n s [] new = tt
order-bidders n s (j ∷ order) new = let p = new-parts n s j order new in ((p.0, p.1), order-bidders n (joined j s) order p.3)

-- a certificate for which all tests pass can be printed
pub can-print : (slots : SlotList) (c : PlaceCertificate) → length c.choice ≡ length slots.bidders → PlacementHolds slots (place_cert_value c) → CanPrint slots c
can-print slots c shape holds =
    let n = length slots.bidders in
    let allowed = (holds.p2 (n + 1)).allowed refl in
    let p = and_parts (is_order n c.order) (is_known (board_of slots) c.choice && gives (board_of slots) c.choice nobody c.order) allowed in
    let q = and_parts (length c.order == n) (are_new n nobody c.order) p.0 in
    record {
      shape = shape;
      order = order-bidders n nobody c.order q.1;
      count = eqb-true (length c.order) n q.0;
      known = λ j some le. (holds.p2 j).known some le;
      value = (holds.p2 (n + 2)).value refl;
      den_positive = (holds.p1 1).den refl;
      not_negative = λ j some le. elim (cases_Bool (uses c.choice j)) [
        | inl wins ↦ ((holds.p5 j).winner some le wins).0
        | inr loses ↦ subst (λ (z : ℤ). pos 0 ≤ℤ z) (sym ((holds.p5 j).loser some le loses)) (omega (arith, ints))
      ];
    }

-- a sum of numbers that aren't below 0 isn't
pub sum-low : (f : ℕ → ℤ) (n : ℕ) → ((j : ℕ) → 0 < j → j ≤ n → pos 0 ≤ℤ f j) → pos 0 ≤ℤ sum_over everyone f n
sum-low f zero each = omega (arith, ints)
sum-low f (suc n) each = let rest = sum-low f n (λ j some le. each j some (omega arith)) in let own = each (suc n) (omega arith) (omega arith) in
    omega (arith, ints, rest, own)

-- the rest of a slice
pub rest-is : {A : Type 0} (x : A) (xs : List A) → take (length (x ∷ xs) - 1) (drop 1 (x ∷ xs)) ≡ xs
rest-is x xs = take_all (length (x ∷ xs) - 1) xs (omega arith)

-- the line of the next bidder, and those of the others after it
lines-on : (slots : SlotList) (v : ℕ → ℤ) (p : Point) (k n : ℕ) (rest line lines : List ℕ) → IsLineOf slots v p (suc k) n line
    → ArePricedLines slots v p (suc k) rest lines → ArePricedLines slots v p k (n ∷ rest) (line ++ lines)
lines-on slots v p k zero rest line lines is are = subst (λ (l : List ℕ). ArePricedLines slots v p (suc k) rest (l ++ lines)) (sym is) are
lines-on slots v p k (suc i) rest line lines is are = (is.0, lines, is.1, are, ap (λ (l : List ℕ). l ++ lines) is.2)

-- the numbers after the first of those that are left
rest-on : (c : List ℕ) (before n : ℕ) (rest : List ℕ) → IsRestOf c before (n ∷ rest) → (number_of c (before + 1) ≡ n) × IsRestOf c (before + 1) rest
rest-on c before n rest is =
    let inside : before < length c = (let e = is.count in omega (arith, e)) in
    let split = drop_more c before 0 inside in
    let same : n ∷ rest ≡ get_or c before 0 ∷ drop (before + 1) c = is.numbers_are ∙ split in
    let first : n ≡ get_or c before 0 = cc in
    let place : (before + 1) - 1 ≡ before = omega arith in
    (ap (λ (k : ℕ). slice_index c k) place ∙ sym first, record { numbers_are = cc; count = (let e = is.count in omega (arith, e)) })

-- the line of a winner is that of its number
pub winner-line : (slots : SlotList) (v : ℕ → ℤ) (p : Point) (j n : ℕ) (pays text new : List ℕ) → 0 < n → IsFractionText (of_bidder p.at j) p.den pays
    → new ≡ text ++ priced_line (bidder_of slots j).name (bid_of slots j n) (v j) pays → (line : List ℕ) × IsLineOf slots v p j n line × (new ≡ text ++ line)
winner-line slots v p j zero pays text new some is e = absurd (omega (arith, some))
winner-line slots v p j (suc i) pays text new some is e = (priced_line (bidder_of slots j).name (bid_of slots j (suc i)) (v j) pays, (pays, is, refl), e)

-- a bidder with a number wins
used : (n : ℕ) → 0 < n → not (n == 0) ≡ true
used n some =
    elim (cases_Bool (n == 0)) [
      | inl none ↦ (let zero = eqb-true n 0 none in absurd (omega (arith, some, zero)))
      | inr more ↦ ap not more
    ]

-- the Vickrey price of a winner
pub price-of : (m : Market) (c : CertValue) (j : ℕ) → 0 < number_of c.choice j → prices_in m c j ≡ vickrey_in m c j
price-of m c j some = ap (λ (b : Bool). cond b (vickrey_in m c j) (pos 0)) (used (number_of c.choice j) some)

-- over a slice that has a first number: the numbers after it
pub slice-rest : (c numbers : List ℕ) (before : ℕ) → 1 ≤ length numbers → IsRestOf c before numbers → IsRestOf c (before + 1)
    (take (length numbers - 1) (drop 1 numbers))
slice-rest c [] before some is = absurd (omega (arith, some))
slice-rest c (n ∷ rest) before some is = subst (IsRestOf c (before + 1)) (sym (rest-is n rest)) (rest-on c before n rest is).1

-- and the lines of all of them
pub slice-lines : (slots : SlotList) (v : ℕ → ℤ) (p : Point) (c numbers : List ℕ) (before : ℕ) (text mid new line lines : List ℕ) → 1 ≤ length numbers
    → IsRestOf c before numbers
    → IsLineOf slots v p (before + 1) (number_of c (before + 1)) line → mid ≡ text ++ line
    → ArePricedLines slots v p (before + 1) (take (length numbers - 1) (drop 1 numbers)) lines → new ≡ mid ++ lines
    → (all : List ℕ) × ArePricedLines slots v p before numbers all × (new ≡ text ++ all)
slice-lines slots v p c [] before text mid new line lines some is one e are f = absurd (omega (arith, some))
slice-lines slots v p c (n ∷ rest) before text mid new line lines some is one e are f =
    let next : before + 1 ≡ suc before = omega arith in
    let number = (rest-on c before n rest is).0 in
    let own = subst (λ (k : ℕ). IsLineOf slots v p k n line) next (subst (λ (i : ℕ). IsLineOf slots v p (before + 1) i line) number one) in
    let others = subst (λ (k : ℕ). ArePricedLines slots v p k rest lines) next (subst (λ (l : List ℕ). ArePricedLines slots v p (before + 1) l lines)
    (rest-is n rest) are) in
    (line ++ lines, lines-on slots v p before n rest line lines own others, f ∙ ap (λ (l : List ℕ). l ++ lines) e ∙ append_assoc text line lines)
