pub mod FiveStored
