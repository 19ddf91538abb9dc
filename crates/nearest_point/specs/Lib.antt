pub mod Found
pub mod Numbers
pub mod Problem
pub mod Search
pub mod Shown
pub mod Tried
