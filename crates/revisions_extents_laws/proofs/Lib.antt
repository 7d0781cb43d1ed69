pub mod Digits
pub mod Places
pub mod Columns
pub mod Extents
pub mod Openers
pub mod Laid
pub mod Cursors
pub mod Covered
