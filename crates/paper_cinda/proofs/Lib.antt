pub mod Rising
pub mod Lines
pub mod Written
