pub mod WeightsForm
pub mod Stages
