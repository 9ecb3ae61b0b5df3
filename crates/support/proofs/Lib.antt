pub mod Striking
pub mod Remaining
