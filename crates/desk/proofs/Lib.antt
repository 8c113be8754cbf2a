pub mod Led
pub mod Serving
pub mod Showing
