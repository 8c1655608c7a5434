pub mod Turned
pub mod Maps
pub mod Complexes
pub mod Laws
