pub mod Counts
pub mod Ends
pub mod Picks
pub mod Merges
pub mod Contents
pub mod Refused
