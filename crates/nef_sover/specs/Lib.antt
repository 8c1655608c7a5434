pub mod Tracks
pub mod Axes
pub mod Circles
pub mod Merged
