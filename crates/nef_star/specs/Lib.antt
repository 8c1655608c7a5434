pub mod Prelude
pub mod Ops
pub mod Turning
pub mod Stars
pub mod Laws
pub mod Rounds
pub mod Lines
