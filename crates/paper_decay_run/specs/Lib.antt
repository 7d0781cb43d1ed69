pub mod Overlay
pub mod Text
pub mod Run
pub mod Claims
