pub mod Found
pub mod Made
pub mod Priced
pub mod Reduced
pub mod Stops
