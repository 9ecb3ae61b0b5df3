pub mod Peeling
pub mod Steps
