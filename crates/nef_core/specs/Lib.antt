pub mod Views
pub mod Machine
pub mod Counts
pub mod Laws
pub mod Results
pub mod Accounts
pub mod Passes
pub mod Work
