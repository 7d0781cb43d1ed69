pub mod OneRecord
pub mod Before
pub mod LastOf
pub mod Openers
