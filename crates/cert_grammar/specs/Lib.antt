pub mod Certificate
pub mod PlaceCert
pub mod Plan
pub mod Lines
pub mod Reading
pub mod Says
pub mod CertText
pub mod OneProof
