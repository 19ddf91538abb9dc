pub mod Checked
pub mod Gives
pub mod ReadFaults
pub mod Works
