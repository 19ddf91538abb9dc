pub mod Sums
pub mod Terms
pub mod Excess
pub mod Bits
pub mod Rows
pub mod Winners
pub mod Sizes
pub mod Surplus
pub mod Blocks
pub mod Some
mod WorkedCases
mod PlainLaws
