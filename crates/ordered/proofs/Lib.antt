pub mod Keys
pub mod Lookups
pub mod Moves
pub mod Orders
