pub mod Args
pub mod Report
