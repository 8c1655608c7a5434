pub mod Images
pub mod Turning
pub mod Shown
