mod CertWork
pub mod Counts
mod Feeding
mod Known
mod LastInput
pub mod Loads
mod Placed
mod Priced
mod Progress
