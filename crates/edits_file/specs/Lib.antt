pub mod EditsForm
pub mod Stages
