pub mod Ranks
pub mod Sizes
pub mod Laws
