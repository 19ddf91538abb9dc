mod AlikeBlocks
mod AlikePoints
mod FractionLaws
mod JsonLaws
mod PriceTextLaws
mod RunTextLaws
mod SameTurns
pub mod Sums
mod WorkedCases
pub mod WinTextLaws
