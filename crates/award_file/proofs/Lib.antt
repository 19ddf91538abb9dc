pub mod CapLaws
pub mod Names
pub mod StepLaws
mod FieldLaws
mod StepOrder
mod ListLaws
mod FaultLaws
mod AwardLaws
mod StatedAwards
mod LimitLaws
mod PartLaws
mod ReadingLaws
mod AwardBooks
