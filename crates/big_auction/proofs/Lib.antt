pub mod Forward
pub mod Drawing
pub mod PriceBounds
pub mod AwardLaw
mod AwardRead
pub mod ClockRounds
pub mod Caps
pub mod SealedRound
pub mod Offers
pub mod MadeClock
pub mod WholeLog
mod StatedLog
pub mod FewWinners
pub mod Asking
pub mod LinesAdded
pub mod Pieces
pub mod MadeLines
