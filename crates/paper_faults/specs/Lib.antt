pub mod Fault
pub mod Least
pub mod Rising
pub mod First
pub mod Found
