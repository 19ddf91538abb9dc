pub mod Multipliers
pub mod Points
