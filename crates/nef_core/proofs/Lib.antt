pub mod Prelude
pub mod Facts
pub mod Places
pub mod Schedules
pub mod Counting
pub mod Deposits
pub mod Accounts
pub mod Passes
