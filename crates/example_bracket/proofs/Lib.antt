pub mod Prelude
pub mod Rows
pub mod Inside
pub mod Answering
