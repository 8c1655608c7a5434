pub mod Prelude
pub mod Pieces
pub mod Decimal
pub mod Signs
pub mod LineLaws
pub mod WordLaws
