pub mod Parts
pub mod CertValues
pub mod Stops
pub mod Readers
pub mod PartReads
pub mod StagePlans
pub mod Written
