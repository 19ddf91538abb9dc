pub mod TextParts
pub mod Writes
pub mod CertLines
