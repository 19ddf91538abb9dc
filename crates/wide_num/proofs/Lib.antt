pub mod Decimal
pub mod Ints
pub mod Signed
pub mod Sums
