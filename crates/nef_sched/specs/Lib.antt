pub mod Counts
pub mod Line
pub mod Views
pub mod Rule
pub mod Rounds
pub mod Laws
pub mod Results
pub mod Plans
