pub mod GoingOn
pub mod Contexts
pub mod AcceptedWalk
pub mod FirstRefused
pub mod FirstAlone
pub mod Laid
pub mod TableLaid
pub mod TextsAdded
