pub mod Accounts
pub mod Options
