pub mod Lines
pub mod Playing
pub mod One
pub mod Skips
pub mod Sessions
