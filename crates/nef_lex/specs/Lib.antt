pub mod Prelude
pub mod Lines
pub mod Words
pub mod Numbers
pub mod Names
pub mod Laws
