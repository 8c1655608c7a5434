pub mod Prelude
pub mod Ties
pub mod Joining
pub mod Held
pub mod Shells
pub mod Labels
pub mod Parts
pub mod Joins
