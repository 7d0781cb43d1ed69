pub mod FieldsRead
pub mod OfValue
pub mod Inside
pub mod Copied
pub mod Finite
pub mod Ways
