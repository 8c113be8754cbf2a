pub mod Houses
