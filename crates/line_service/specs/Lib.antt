pub mod Lines
pub mod Page
pub mod Pieces
pub mod Steps
pub mod Stops
