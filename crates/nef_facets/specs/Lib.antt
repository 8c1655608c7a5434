pub mod Prelude
pub mod Carriers
pub mod Ties
pub mod Corners
pub mod Facets
pub mod Next
pub mod Orbits
