pub mod Numbered
pub mod Stepping
pub mod Walking
