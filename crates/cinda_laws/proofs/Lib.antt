pub mod Exactly
pub mod Wrongs
pub mod Lines
pub mod Places
pub mod Answers
pub mod Apart
pub mod Asked
pub mod Pieces
