pub mod WalkByRow
