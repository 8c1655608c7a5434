pub mod Ends
pub mod Widths
pub mod Changes
