pub mod Edits
pub mod ReviewValue
pub mod Reviewed
