pub mod Numbers
pub mod Readings
pub mod AccountSteps
pub mod LayerSteps
pub mod LayerJoins
pub mod Houses
pub mod Values
