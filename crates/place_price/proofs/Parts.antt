-- The parts of a placement certificate without each winner.
use Rattle.std.specs.Prelude.{◌≡◌, ℕ, zero, suc, ◌<◌, ◌≤◌, Bool, IsTrue, if◌then◌else◌, List, [], ◌∷◌, ◌++◌, length, map, slice_index_or, ℤ, pos, refl}
use Rattle.std.specs.List.{AllByRecursion}
use Rattle.std.proofs.Common.{inl, inr, sym, ◌∙◌, ap, subst, arith, length-append}
use Rattle.std.proofs.lemmas.Bool.{cases_eq, eq-eqb, ne_eqb}
use Rattle.std.proofs.lemmas.List.{get_or-map, length-map, map-append}
use Rattle.auction_model.specs.Market.{uses}
use Rattle.auction_model.proofs.ListLaws.{each-push}
use Rattle.book_price.specs.Made.{parts_from}
use Rattle.book_price.proofs.Places.{part-of_winner, rank}
use Rattle.cert_grammar.specs.Certificate.{WithoutValue, part_of}
use Rattle.cert_grammar.specs.PlaceCert.{order_without}
use Rattle.choices.specs.Singles.{AreSingles}
use Rattle.choices.specs.declared.chooser.Single.{Single}
use Rattle.placement_cert.specs.Parts.{part_order, part_value}
use Rattle.placement_cert.specs.declared.certificate.PlaceWithout.{PlaceWithout}
use Rattle.placement_check.specs.PlacePriced.{IsBestPlacedPart}
use Rattle.place_price.specs.PlacedParts.{ArePartsOf, IsBest, IsPartOf, tables_of}
use Rattle.slot_places.specs.Board.{market_of_slots}
use Rattle.slot_places.specs.Slots.{SlotList}

parts-push : (singles : List Single) (s : Single) (tables : List (List (List ℤ))) (t : List (List ℤ)) → length tables ≡ length singles
    → parts_from (singles ++ s ∷ []) (tables ++ t ∷ []) ≡ parts_from singles tables ++ record { winner = s.winner; choice = s.choice; table = t } ∷ []
parts-push [] s [] t e = refl
parts-push [] s (u ∷ tables) t e = absurd (omega (arith, e))
parts-push (x ∷ singles) s [] t e = absurd (omega (arith, e))
parts-push (x ∷ singles) s (u ∷ tables) t e = ap (λ (l : List WithoutValue). record { winner = x.winner; choice = x.choice; table = u } ∷ l)
    (parts-push singles s tables t (omega (arith, e)))

abbrev table_in : PlaceWithout → List (List ℤ)
table_in w = w.table

-- there are as many tables as parts
pub tables-count : (parts : List PlaceWithout) → length (tables_of parts) ≡ length parts
tables-count parts = length-map parts table_in

-- one winner more
pub more-parts : (slots : SlotList) (singles : List Single) (parts : List PlaceWithout) (s : Single) (w : PlaceWithout) → ArePartsOf slots singles parts
    → IsPartOf slots s w → ArePartsOf slots (singles ++ s ∷ []) (parts ++ w ∷ [])
more-parts slots singles parts s w are is = record {
  count = omega (arith, are.count, length-append parts (w ∷ []), length-append singles (s ∷ []));
  winners =
      map-append (λ (p : PlaceWithout). p.winner) parts (w ∷ [])
      ∙ ap (λ (l : List ℕ). l ++ w.winner ∷ []) are.winners
      ∙ ap (λ (n : ℕ). map (λ (x : Single). x.winner) singles ++ n ∷ []) is.winner
      ∙ sym (map-append (λ (x : Single). x.winner) singles (s ∷ []));
  made =
      map-append part_value parts (w ∷ [])
      ∙ ap (λ (l : List WithoutValue). l ++ part_value w ∷ []) are.made
      ∙ ap (λ (v : WithoutValue). parts_from singles (tables_of parts) ++ v ∷ []) own
      ∙ sym (parts-push singles s (tables_of parts) w.table (tables-count parts ∙ are.count))
      ∙ ap (parts_from (singles ++ s ∷ [])) (sym (map-append table_in parts (w ∷ [])));
  best = each-push (IsBest slots) parts w are.best is.best;
}
  where
    own : part_value w ≡ record { winner = s.winner; choice = s.choice; table = w.table }
    own = λ t. record { winner = is.winner t; choice = is.choice t; table = w.table }

-- the part of a bidder among them is a best one, with the order beside it
best-at : (slots : SlotList) (parts : List PlaceWithout) → AllByRecursion (IsBest slots) parts → (j i : ℕ) → i < length parts
    → slice_index_or (map (λ (p : PlaceWithout). p.winner) parts) i 0 ≡ j
    → IsBestPlacedPart slots j (part_of (map part_value parts) j) (order_without (map part_value parts) (map part_order parts) j)
best-at slots [] all j i lt e = absurd (omega arith)
best-at slots (w ∷ parts) all j i lt e =
    elim (cases_eq w.winner j) [
      | inl same ↦
          subst (λ (b : Bool). IsBestPlacedPart slots j (if b then part_value w else part_of (map part_value parts) j)
          (if b then w.order else order_without (map part_value parts) (map part_order parts) j))
          (sym (eq-eqb w.winner j same)) (subst (λ (k : ℕ). IsBestPlacedPart slots k (part_value w) w.order) same all.0)
      | inr other ↦
          subst (λ (b : Bool). IsBestPlacedPart slots j (if b then part_value w else part_of (map part_value parts) j)
          (if b then w.order else order_without (map part_value parts) (map part_order parts) j))
          (sym (ne_eqb w.winner j other)) (behind i lt e other (λ k low is. best-at slots parts all.1 j k low is))
    ]
  where
    behind : (k : ℕ) → k < suc (length parts) → slice_index_or (w.winner ∷ map (λ (p : PlaceWithout). p.winner) parts) k 0 ≡ j → ¬ (w.winner ≡ j)
        → ((h : ℕ) → h < length parts → slice_index_or (map (λ (p : PlaceWithout). p.winner) parts) h 0 ≡ j
        → IsBestPlacedPart slots j (part_of (map part_value parts) j) (order_without (map part_value parts) (map part_order parts) j))
        → IsBestPlacedPart slots j (part_of (map part_value parts) j) (order_without (map part_value parts) (map part_order parts) j)
    behind zero low is other next = absurd (other is)
    behind (suc k) low is other next = next k (omega (arith, low)) is

-- each winner has one
pub best-parts : (slots : SlotList) (z : List ℕ) (singles : List Single) (parts : List PlaceWithout) → AreSingles (market_of_slots slots) z singles
    → ArePartsOf slots singles parts
    → (j : ℕ) → 0 < j → j ≤ length z → IsTrue (uses z j) → IsBestPlacedPart slots j (part_of (parts_from singles (tables_of parts)) j)
    (order_without (parts_from singles (tables_of parts)) (map part_order parts) j)
best-parts slots z singles parts are made zero some inside used = absurd (omega (arith, some))
best-parts slots z singles parts are made (suc k) some inside used =
    let p = part-of_winner z singles (tables_of parts) are.winners (tables-count parts ∙ made.count) k inside used in
    let i = rank z k in
    let none : Single = record { winner = 0; price = pos 0; choice = [] } in
    let at : slice_index_or (map (λ (s : Single). s.winner) singles) i 0 ≡ suc k = get_or-map (λ (s : Single). s.winner) singles i none 0 p.inside ∙ p.winner in
    let own : slice_index_or (map (λ (w : PlaceWithout). w.winner) parts) i 0 ≡ suc k = ap (λ (l : List ℕ). slice_index_or l i 0) made.winners ∙ at in
    subst (λ (ws : List WithoutValue). IsBestPlacedPart slots (suc k) (part_of ws (suc k)) (order_without ws (map part_order parts) (suc k))) made.made
    (best-at slots parts made.best (suc k) i (let l = p.inside in let c = made.count in omega (arith, l, c)) own)
