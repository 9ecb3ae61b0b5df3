pub mod Rounds
pub mod Shared
