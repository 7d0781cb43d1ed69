pub mod Place
pub mod Passage
pub mod Row
pub mod Located
pub mod Refused
pub mod ValueAnswers
pub mod PartAnswers
pub mod Ask
