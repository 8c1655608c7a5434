pub mod Prelude
mod Lines
