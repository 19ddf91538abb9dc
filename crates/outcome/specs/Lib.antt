pub mod Fractions
pub mod Json
pub mod Payments
pub mod Prices
pub mod Printable
pub mod ReviewText
pub mod Turns
