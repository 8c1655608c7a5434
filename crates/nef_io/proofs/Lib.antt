pub mod Prelude
pub mod Told
