pub mod RangesAt
pub mod AskedFor
pub mod Characters
