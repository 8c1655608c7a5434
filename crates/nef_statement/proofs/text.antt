pub mod Prelude
pub mod Lines
pub mod Words
pub mod Lists
pub mod Vertices
pub mod Whole
mod Carriers
mod Numbering
mod Rows
mod OneCycles
mod OneNext
mod OneShells
mod OneParts
pub mod SameText
mod Corners
mod Octants
mod LowestCorner
mod FrameVertices
mod FrameEdges
mod FrameLinks
mod FrameParts
mod FrameText
