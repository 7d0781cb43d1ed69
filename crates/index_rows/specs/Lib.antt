pub mod Index
pub mod Walk
