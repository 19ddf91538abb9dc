pub mod Kept
pub mod Lowest
pub mod Priced
pub mod Rows
pub mod SoFar
pub mod Stops
pub mod Turns
