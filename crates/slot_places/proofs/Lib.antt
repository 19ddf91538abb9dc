pub mod SetLaws
pub mod PlaceLaws
pub mod MarketLaws
pub mod OrderLaws
pub mod BestLaws
pub mod StepLaws
pub mod SetBits
pub mod SameLaws
pub mod WholeLaws
pub mod SizeLaws
pub mod CompareLaws
pub mod NumberLaws
pub mod ReadLaws
pub mod TableLaws
pub mod WithoutLaws
mod NextLaws
pub mod FirstOrders
mod OrderSteps
pub mod PlainSearch
mod Growth
mod LineLaws
mod Reading
mod SlotsDecided
pub mod Within
mod Added
mod EntryLaws
