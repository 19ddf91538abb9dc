-- The parts of a placement certificate, from the single winners: terms of private contracts.
use Rattle.std.specs.Prelude.{◌≡◌, List, length, map, ℤ}
use Rattle.std.specs.List.{AllByRecursion}
use Rattle.choices.specs.declared.chooser.Single.{Single}
use Rattle.book_price.specs.Made.{parts_from}
use Rattle.placement_cert.specs.Parts.{part_value}
use Rattle.placement_cert.specs.declared.certificate.PlaceWithout.{PlaceWithout}
use Rattle.placement_check.specs.PlacePriced.{IsBestPlacedPart}
use Rattle.slot_places.specs.Slots.{SlotList}

-- the first of the greatest choices without its winner, with the placement and the exact table
abbrev pub IsBest : SlotList → PlaceWithout → Type 0
IsBest slots w = IsBestPlacedPart slots w.winner (part_value w) w.order

-- the part of a single winner
pub record IsPartOf (slots : SlotList) (s : Single) (w : PlaceWithout) : Type 0 where
  pub winner : w.winner ≡ s.winner
  pub choice : w.choice ≡ s.choice
  pub best : IsBest slots w

abbrev pub tables_of : List PlaceWithout → List (List (List ℤ))
tables_of parts = map (λ w. w.table) parts

-- the parts of all these winners, in their order
pub record ArePartsOf (slots : SlotList) (singles : List Single) (parts : List PlaceWithout) : Type 0 where
  pub count : length parts ≡ length singles
  pub winners : map (λ w. w.winner) parts ≡ map (λ s. s.winner) singles
  pub made : map part_value parts ≡ parts_from singles (tables_of parts)
  pub best : AllByRecursion (IsBest slots) parts
