mod Names
mod Stopped
mod Parted
mod Numbers
pub mod ReadStops
