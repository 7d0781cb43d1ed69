pub mod There
pub mod Answers
