pub mod Either
pub mod FirmCap
pub mod Firms
pub mod LayerLaws
pub mod Layers
pub mod Rules
