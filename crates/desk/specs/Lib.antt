pub mod Cut
pub mod Desk
pub mod Served
