pub mod InPlace
pub mod Demand
pub mod OneCopy
pub mod Made
