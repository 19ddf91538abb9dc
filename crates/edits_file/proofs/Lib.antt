mod FieldLaws
mod LineLaws
mod Reading
mod EditsDecided
