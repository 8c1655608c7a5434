pub mod Reach
pub mod Items
pub mod Slices
pub mod Sides
pub mod Components
