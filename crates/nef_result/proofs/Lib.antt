pub mod Prelude
pub mod PlaneMerge
pub mod Merging
pub mod Vertices
pub mod Filled
pub mod HalfCones
pub mod Zipped
pub mod Walls
pub mod CornerVertices
pub mod CornerCones
mod CornerMaps
pub mod InOrder
mod Shown
pub mod CornerPoints
pub mod EachCorner
