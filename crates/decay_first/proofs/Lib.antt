pub mod Columns
pub mod Begins
pub mod Turning
pub mod Reaching
pub mod First
