pub mod PlacedParts
pub mod PlacedRows
pub mod Ones
pub mod Found
pub mod PlacePrintable
pub mod PlaceText
