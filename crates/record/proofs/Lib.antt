pub mod Powers
pub mod Found
