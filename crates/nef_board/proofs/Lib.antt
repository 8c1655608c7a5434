pub mod Prelude
pub mod Sounds
pub mod Turns
pub mod Opens
pub mod Runs
