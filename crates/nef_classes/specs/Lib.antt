pub mod Classes
pub mod Tables
pub mod Flat
pub mod Forest
