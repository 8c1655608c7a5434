pub mod Prelude
pub mod Injective
pub mod Vertices
pub mod Sets
pub mod Decides
