pub mod Parts
pub mod Asked
pub mod Claims
pub mod Standing
