pub mod Layout
pub mod Rules
pub mod Check
pub mod Apart
pub mod Pieces
pub mod Back
