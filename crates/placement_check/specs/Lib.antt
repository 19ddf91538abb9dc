pub mod PlaceTests
pub mod PlaceSound
pub mod PlacePriced
pub mod Verdicts
pub mod OfferRules
pub mod Shown
pub mod RowSums
