pub mod Prelude
pub mod Directions
pub mod Shown
