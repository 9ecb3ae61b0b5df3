pub mod Found
pub mod Choice
pub mod Turns
