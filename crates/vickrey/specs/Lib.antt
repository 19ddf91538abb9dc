pub mod Sources
pub mod VickreyValue
