pub mod Double
pub mod Claims
pub mod Table
