pub mod Record
pub mod Yield
