pub mod Bytes
pub mod Columns
pub mod Command
pub mod English
pub mod Messages
pub mod PhraseText
pub mod Phrases
pub mod Printed
