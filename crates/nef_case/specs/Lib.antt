pub mod Keys
pub mod Between
pub mod Labels
pub mod Turns
