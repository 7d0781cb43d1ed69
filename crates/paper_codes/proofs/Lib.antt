pub mod Opening
pub mod Closed
pub mod Answers
pub mod Asked
