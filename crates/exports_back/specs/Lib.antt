pub mod Claims
pub mod QuestionClaims
pub mod IndexClaims
pub mod WalkClaims
pub mod DoubleClaims
pub mod NoPlace
