pub mod Nodes
pub mod Plain
pub mod Turns
pub mod Table
pub mod Copying
pub mod Laws
