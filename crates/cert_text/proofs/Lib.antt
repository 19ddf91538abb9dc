pub mod PlanSteps
pub mod SmallNumbers
mod JustThese
pub mod TableSteps
mod PartSteps
mod RowSteps
mod StageSteps
mod WholeText
pub mod Written
mod PartsFound
pub mod SpelledLaws
