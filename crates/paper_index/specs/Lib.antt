pub mod Rows
pub mod Making
pub mod Reads
pub mod TableAnswers
pub mod PassageAnswers
pub mod Asked
pub mod ByIndex
pub mod Claims
