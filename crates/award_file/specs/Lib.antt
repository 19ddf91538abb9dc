pub mod Award
pub mod Fields
pub mod Views
pub mod Stated
pub mod Walk
pub mod Reading
pub mod Parts
