pub mod NameLaws
pub mod TextLaws
