pub mod Prelude
pub mod Totals
pub mod Lines
pub mod Steps
pub mod Outs
pub mod Planning
