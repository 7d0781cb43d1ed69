pub mod Opening
pub mod Asked
