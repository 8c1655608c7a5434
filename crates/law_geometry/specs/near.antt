pub mod Homogeneous
pub mod Near
pub mod FormLaws
pub mod Cells
pub mod Cones
pub mod Laws
pub mod Examples
