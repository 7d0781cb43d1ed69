pub mod StartByRow
pub mod Walked
