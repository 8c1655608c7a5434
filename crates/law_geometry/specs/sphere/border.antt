pub mod Topology
pub mod Marks
pub mod Laws
