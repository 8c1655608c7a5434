pub mod Links
pub mod Components
