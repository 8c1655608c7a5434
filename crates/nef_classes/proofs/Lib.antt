pub mod Prelude
pub mod ClassLists
pub mod ByAppearance
mod Places
mod Numbers
pub mod Cutting
pub mod Writes
pub mod Trees
