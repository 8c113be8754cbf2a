pub mod Built
pub mod Document
pub mod House
pub mod Read
pub mod Rule
pub mod Settings
pub mod Stop
pub mod Words
