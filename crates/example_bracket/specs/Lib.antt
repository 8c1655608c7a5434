pub mod Bracket
pub mod Answers
