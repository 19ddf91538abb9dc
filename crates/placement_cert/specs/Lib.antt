pub mod PlaceText
pub mod PlaceSays
pub mod OneProof
pub mod Parts
pub mod CertValues
pub mod PlaceReads
pub mod Written
