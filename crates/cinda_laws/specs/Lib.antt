pub mod Plain
pub mod Wrong
pub mod Said
pub mod Places
pub mod Apart
pub mod Pieces
