pub mod Columns
pub mod Laid
pub mod Order
