pub mod PlainShape
