pub mod Places
pub mod Rays
pub mod Ends
pub mod Halves
pub mod Facets
pub mod Orders
pub mod Frames
