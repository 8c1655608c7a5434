pub mod Overlays
pub mod From
pub mod Laws
