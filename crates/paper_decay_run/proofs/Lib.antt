pub mod Overlay
pub mod Cutting
pub mod Shorter
pub mod Fields
pub mod Codes
pub mod Pieces
pub mod Texts
