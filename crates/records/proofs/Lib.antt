pub mod Records
pub mod Nets
