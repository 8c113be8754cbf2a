pub mod Joins
pub mod Ledgers
pub mod Passed
