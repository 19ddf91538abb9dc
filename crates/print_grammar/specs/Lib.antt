pub mod Fractions
pub mod Json
pub mod Prices
pub mod Turns
pub mod WinText
