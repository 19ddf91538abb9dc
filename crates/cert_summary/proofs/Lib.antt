pub mod Ranges
pub mod Known
pub mod Winners
mod PartLaws
pub mod FactLaws
