pub mod Shape
pub mod PlainShape
