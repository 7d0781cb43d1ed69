pub mod Said
pub mod ByRow
