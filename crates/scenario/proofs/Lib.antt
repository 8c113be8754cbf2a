pub mod Lawful
pub mod Numbers
pub mod Rows
pub mod Written
