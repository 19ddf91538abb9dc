-- The parts of a certificate without each winner, with their orders.
use Rattle.std.specs.Prelude.{◌↔◌, ◌≡◌, ℕ, zero, suc, ◌+◌, ◌<◌, ◌≤◌, ◌==◌, ◌&&◌, Bool, IsTrue, List, [], ◌∷◌, length, map, drop, get_or, refl}
use Rattle.std.proofs.Common.{sym, ◌∙◌, ap, subst, arith, drop-cons}
use Rattle.std.proofs.lemmas.Bool.{cond-true, cond-false, eq-eqb, ne_eqb, and_parts, eqb-true}
use Rattle.cert_grammar.specs.Certificate.{WithoutValue, part_of}
use Rattle.placement_cert.specs.Parts.{part_value, part_order, AreParts}
use Rattle.placement_cert.specs.PlaceText.{HasSets, IsPlaceCertificate}
use Rattle.placement_cert.specs.CertValues.{place_cert_value}
use Rattle.placement_cert.specs.declared.certificate.PlaceCertificate.{PlaceCertificate}
use Rattle.placement_cert.specs.declared.certificate.PlaceWithout.{PlaceWithout}
use Rattle.cert_grammar.specs.PlaceCert.{order_without}
use Rattle.placement_check.specs.PlaceTests.{IsPlacedPart}
use Rattle.slot_places.specs.Orders.{allows}
use Rattle.slot_places.specs.Slots.{SlotList}
use Rattle.placement_check.specs.Shown.{IsFor}

-- what a certificate keeps, for the bidders of the slots
pub cert-kept : (slots : SlotList) (cert : PlaceCertificate) → IsFor slots cert → IsPlaceCertificate (length slots.bidders) (place_cert_value cert)
cert-kept slots cert shape = subst (λ (n : ℕ). IsPlaceCertificate n (place_cert_value cert)) shape cert.rules

-- each part has a choice and a table of the right form
pub record HasForm (b : ℕ) (part : PlaceWithout) : Type 0 where
  pub choice : length part.choice ≡ b
  pub table : HasSets b part.table

parts-form : (b j : ℕ) (numbers : List ℕ) (parts : List PlaceWithout) → AreParts b j numbers parts → (i : ℕ) (other : PlaceWithout) → i < length parts
    → HasForm b (get_or parts i other)
parts-form b j numbers [] are i other lt = absurd (omega arith)
parts-form b j [] (w ∷ parts) are i other lt = absurd are
parts-form b j (zero ∷ numbers) (w ∷ parts) are i other lt = parts-form b (suc j) numbers (w ∷ parts) are i other lt
parts-form b j (suc n ∷ numbers) (w ∷ parts) are zero other lt = record { choice = are.0.choice.0; table = are.0.table }
parts-form b j (suc n ∷ numbers) (w ∷ parts) are (suc i) other lt = parts-form b (suc j) numbers parts are.1 i other (omega arith)

-- each part of a certificate has a choice and a table of the right form
pub part-form : (slots : SlotList) (cert : PlaceCertificate) → IsFor slots cert → (items : List PlaceWithout) (i : ℕ) (part : PlaceWithout)
    → items ≡ cert.withouts → i < length items → part ≡ get_or items i part
    → HasForm (length slots.bidders) part
part-form slots cert shape items i part same lt is =
    subst (HasForm (length slots.bidders)) (sym is)
    (parts-form (length slots.bidders) 1 cert.choice items (subst (λ (ws : List PlaceWithout). AreParts (length slots.bidders) 1 cert.choice ws) (sym same)
    (cert-kept slots cert shape).withouts) i part lt)

-- the part and the order without a bidder are those of the parts from i on
pub record IsFrom (parts : List PlaceWithout) (i j : ℕ) : Type 0 where
  pub part : part_of (map part_value parts) j ≡ part_of (map part_value (drop i parts)) j
  pub order : order_without (map part_value parts) (map part_order parts) j ≡ order_without (map part_value (drop i parts)) (map part_order (drop i parts)) j

split-at : (parts : List PlaceWithout) (i : ℕ) (part : PlaceWithout) → i < length parts → part ≡ get_or parts i part → drop i parts ≡ part ∷ drop (suc i) parts
split-at parts i part lt is = drop-cons parts i part lt ∙ ap (λ (p : PlaceWithout). p ∷ drop (suc i) parts) (sym is)

module _ (parts : List PlaceWithout) (i j : ℕ) (part : PlaceWithout) (lt : i < length parts) (is : part ≡ get_or parts i part) (from : IsFrom parts i j) where
  rest : List PlaceWithout
  rest = drop (suc i) parts

  part-here : part_of (map part_value parts) j ≡ part_of (map part_value (part ∷ drop (suc i) parts)) j
  part-here = from.part ∙ ap (λ (ps : List PlaceWithout). part_of (map part_value ps) j) (split-at parts i part lt is)

  order-here : order_without (map part_value parts) (map part_order parts) j ≡ order_without (map part_value (part ∷ drop (suc i) parts))
      (map part_order (part ∷ drop (suc i) parts)) j
  order-here = from.order ∙ ap (λ (ps : List PlaceWithout). order_without (map part_value ps) (map part_order ps) j) (split-at parts i part lt is)

  -- if no earlier part is the winner's and the part at hand is, it is the part without the winner
  pub found-part : part.winner ≡ j → part_of (map part_value parts) j ≡ part_value part
  found-part own = part-here ∙ cond-true (part.winner == j) (part_value part) (part_of (map part_value (drop (suc i) parts)) j) (eq-eqb part.winner j own)

  -- its order is the order without the winner
  pub found-order : part.winner ≡ j → order_without (map part_value parts) (map part_order parts) j ≡ part_order part
  found-order own = order-here ∙ cond-true (part.winner == j) (part_order part) (order_without (map part_value (drop (suc i) parts))
      (map part_order (drop (suc i) parts)) j) (eq-eqb part.winner j own)

  -- if the part at hand is another winner's, the part and the order are those of the parts after it
  pub from-next : (part.winner ≡ j → ⊥) → IsFrom parts (i + 1) j
  from-next other =
      let up : suc i ≡ i + 1 = omega arith in
      let no = ne_eqb part.winner j other in
      subst (λ (n : ℕ). IsFrom parts n j) up (record {
        part = part-here ∙ cond-false (part.winner == j) (part_value part) (part_of (map part_value (drop (suc i) parts)) j) no;
        order = order-here ∙ cond-false (part.winner == j) (part_order part) (order_without (map part_value (drop (suc i) parts))
            (map part_order (drop (suc i) parts)) j) no;
      })

-- from the first part on, the part and the order are those of all parts
pub from-start : (parts : List PlaceWithout) (j : ℕ) → IsFrom parts 0 j
from-start parts j = record { part = refl; order = refl }

-- without a part nothing is shown
pub no-part : (slots : SlotList) (parts : List PlaceWithout) (i j : ℕ) → 0 < j → j ≤ length slots.bidders → drop i parts ≡ [] → IsFrom parts i j
    → IsPlacedPart slots j (part_of (map part_value parts) j) (order_without (map part_value parts) (map part_order parts) j) → ⊥
no-part slots parts i j some low none from is =
    let order : order_without (map part_value parts) (map part_order parts) j ≡ [] = from.order ∙ ap
    (λ (ps : List PlaceWithout). order_without (map part_value ps) (map part_order ps) j) none in
    let chosen = (part_of (map part_value parts) j).choice in
    let t : IsTrue (allows slots [] chosen) = subst (λ (l : List ℕ). IsTrue (allows slots l chosen)) order is.allowed in
    let count : 0 ≡ length slots.bidders = eqb-true 0 (length slots.bidders) (nested (0 == length slots.bidders) _ _ t) in
    omega (arith, count, some, low)
  where
    nested : (x y z : Bool) → IsTrue ((x && y) && z) → IsTrue x
    nested x y z t = (and_parts x y (and_parts (x && y) z t).0).0

-- the part and the order that are tested
pub part-by : (slots : SlotList) (j : ℕ) (b : Bool) (w v : WithoutValue) (o l : List ℕ) → w ≡ v → o ≡ l → (IsTrue b ↔ IsPlacedPart slots j v l)
    → IsTrue b ↔ IsPlacedPart slots j w o
part-by slots j b w v o l e f h =
    subst (λ (x : WithoutValue). IsTrue b ↔ IsPlacedPart slots j x o) (sym e) (subst (λ (y : List ℕ). IsTrue b ↔ IsPlacedPart slots j v y) (sym f) h)
