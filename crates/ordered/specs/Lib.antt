pub mod Kept
pub mod Key
pub mod Row
