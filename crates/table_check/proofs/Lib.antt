mod BlockLaws
mod CornerLaws
mod GrowthLaws
mod LineLaws
mod NarrowLines
pub mod TableLines
