pub mod Prelude
pub mod SignNumbers
pub mod Ends
pub mod Candidates
pub mod Ways
pub mod OnWays
