pub mod LogForm
pub mod LogText
pub mod LogReading
pub mod Statements
pub mod ReplyText
pub mod RecordsLeft
pub mod WideRecords
