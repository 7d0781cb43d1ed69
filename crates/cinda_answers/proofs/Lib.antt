pub mod Answers
pub mod StandsThere
