pub mod RoundLaws
pub mod AmountLaws
pub mod PlaceLaws
pub mod CapLaws
pub mod LevelLaws
pub mod FirstPlace
pub mod TestedLaws
