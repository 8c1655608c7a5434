pub mod Signs
pub mod Arcs
pub mod Laws
