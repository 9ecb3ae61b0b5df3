pub mod Answers
pub mod Texts
pub mod Sizes
pub mod Refusals
