mod Lowest
mod Totals
pub mod LineLaws
mod WinnerLaws
mod PriceLists
mod Printable
mod Revenue
mod TurnLaws
mod WinLines
mod JsonLists
mod PlainTexts
mod Reserves
mod EditReplies
mod ReviewLines
mod ReviewTexts
mod StateLines
