pub mod Nobody
pub mod SetBounds
pub mod SetSizes
pub mod SetExact
pub mod Sound
pub mod FirstEntry
pub mod Exact
pub mod ExactTests
pub mod Verdicts
pub mod OnePricing
mod WorkedCases
mod WorkedCert
pub mod AmountLaws
pub mod SetTests
pub mod Small
pub mod VerdictLaws
pub mod RowLaws
pub mod PartLaws
pub mod PlaceLaws
pub mod SumSteps
pub mod SetTables
