pub mod Walk
pub mod Claims
