pub mod Alike
pub mod Back
pub mod Made
