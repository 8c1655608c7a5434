pub mod Prelude
pub mod Widths
pub mod Moments
pub mod Order
pub mod EdgeEnds
pub mod Pairs
pub mod Matched
pub mod Laid
