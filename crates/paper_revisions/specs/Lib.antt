pub mod Extents
pub mod Taken
pub mod Picking
pub mod Merging
pub mod Claims
