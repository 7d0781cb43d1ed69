pub mod ByRanges
pub mod Pass
