pub mod near
pub mod sphere
pub mod complex
pub mod turns
