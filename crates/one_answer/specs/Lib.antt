pub mod ByHand
pub mod Determined
pub mod OneAnswer
