pub mod Headings
pub mod Wrong
