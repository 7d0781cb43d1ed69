pub mod BothBy
pub mod PickedBy
