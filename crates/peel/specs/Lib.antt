pub mod Peeling
pub mod Worksheet
