pub mod Prelude
pub mod Planes
pub mod Crossing
pub mod Adding
pub mod EdgeLines
pub mod Held
pub mod Missing
pub mod MissedFrame
pub mod Order
pub mod Complete
pub mod Halves
pub mod Framed
pub mod Apart
pub mod Both
pub mod NearCuts
pub mod Merging
mod Vertices
mod Beside
