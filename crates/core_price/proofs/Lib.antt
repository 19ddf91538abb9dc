mod AskedLaws
mod Core
mod Division
mod Divisors
mod KeptCount
mod KeptLaws
mod KeptSums
pub mod LookLaws
mod OutcomeLaws
mod Places
mod Points
mod PricedLaws
mod Runs
mod SameRows
pub mod Spots
mod Spreading
mod StartLaws
mod StopLaws
mod TurnLaws
mod VickreyLaws
pub mod WeightLaws
mod MemberLaws
mod WinnerCount
