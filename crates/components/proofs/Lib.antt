pub mod Answers
pub mod Entries
