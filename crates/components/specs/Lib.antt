pub mod Entries
pub mod Answers
