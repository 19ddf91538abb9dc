pub mod ReplyLines
pub mod Course
