pub mod Prelude
pub mod Labels
pub mod Made
pub mod Stars
pub mod Sets
