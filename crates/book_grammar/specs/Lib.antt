pub mod BookForm
pub mod BookLines
