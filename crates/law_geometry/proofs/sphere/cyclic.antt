pub mod Prelude
pub mod Signs
pub mod Planar
pub mod StrictlyOn
pub mod Cyclic
pub mod Directions
