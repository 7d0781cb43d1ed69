pub mod RoundedUp
