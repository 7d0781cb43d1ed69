pub mod Few
pub mod Roles
pub mod Between
pub mod Following
pub mod MetRows
pub mod RowFollowed
