pub mod Prelude
pub mod Candidates
pub mod Names
pub mod Points
pub mod Near
