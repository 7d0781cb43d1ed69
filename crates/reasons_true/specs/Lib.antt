pub mod Mended
pub mod Counted
pub mod Equal
pub mod Said
