pub mod ClockState
pub mod Kept
pub mod Raised
pub mod Rounds
pub mod Closings
pub mod Closing
