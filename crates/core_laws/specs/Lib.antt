pub mod Winners
pub mod Weights
pub mod Surplus
pub mod Rows
pub mod Turns
pub mod Outcome
pub mod PlainNearest
