pub mod Outside
pub mod File
pub mod Parts
pub mod PlainParts
pub mod Numbers
