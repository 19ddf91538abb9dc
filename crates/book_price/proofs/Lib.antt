pub mod Places
pub mod Members
pub mod Payments
pub mod Rows
pub mod Multipliers
pub mod Shapes
mod Certified
mod First
pub mod LastTurn
mod Lowered
mod Tables
pub mod Worths
mod Lowest
pub mod Ones
mod FoundLaws
