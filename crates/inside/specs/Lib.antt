pub mod Inside
pub mod Asked
pub mod Placed
