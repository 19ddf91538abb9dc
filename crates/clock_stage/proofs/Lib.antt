pub mod Demands
pub mod KeptLaws
pub mod ClockLaws
pub mod HistoryLaws
mod RaisedLaws
