pub mod NoColumns
pub mod Leftmost
pub mod Rising
pub mod Least
pub mod FaultSaid
pub mod First
pub mod Found
pub mod Told
