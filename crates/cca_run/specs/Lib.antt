pub mod Run
pub mod Ends
pub mod Later
pub mod Headline
pub mod Rooms
pub mod Verdicts
pub mod Made
pub mod Runs
