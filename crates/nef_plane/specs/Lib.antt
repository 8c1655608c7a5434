pub mod Amid
pub mod Meets
pub mod Parting
pub mod Courses
pub mod Levels
pub mod Asked
pub mod Ends
pub mod Windows
