pub mod Block
pub mod Faults
pub mod Narrow
pub mod Growth
pub mod Corners
pub mod Worths
pub mod LineTests
