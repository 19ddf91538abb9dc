pub mod Draws
pub mod MadeAward
pub mod AwardText
pub mod LogText
pub mod MadeLog
pub mod Answered
pub mod Parts
pub mod MadeAuction
