pub mod Members
mod Tops
