-- What the checker of placement certificates answers.
use Rattle.std.specs.Prelude.{ℕ, ◌<◌}
use Rattle.cert_check.specs.declared.verdict.Verdict.{Verdict}
use Rattle.cert_check.specs.declared.verdict.Verdict.TheVariants.{Yes, No}
use Rattle.slot_places.specs.Slots.{SlotList}
use Rattle.cert_grammar.specs.PlaceCert.{PlaceCertValue}
use Rattle.placement_check.specs.PlaceTests.{Asks, PlacementHolds, FailsFirst}

-- yes if all tests pass at all places, else the first test that fails with its first place
abbrev pub IsPlaceVerdict : SlotList → PlaceCertValue → Verdict → Type 0
IsPlaceVerdict slots p Yes = PlacementHolds slots p
IsPlaceVerdict slots p (No test place) = FailsFirst slots p test place

-- all tests before this one pass
abbrev pub HoldsUpTo : SlotList → PlaceCertValue → ℕ → Type 0
HoldsUpTo slots p n = (test place : ℕ) → test < n → Asks slots p test place
