pub mod Laws
pub mod Determined
pub mod Frame
pub mod existence
