pub mod Prelude
pub mod Kinds
pub mod Pieces
pub mod Arcs
pub mod Made
