pub mod LineText
pub mod Numeral
pub mod Range
pub mod Decimals
pub mod Fields
pub mod Reading
pub mod Stops
