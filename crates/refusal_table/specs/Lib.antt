pub mod Table
pub mod KindOf
pub mod Listed
pub mod TextFaults
pub mod HeadingFaults
pub mod FlagFaults
