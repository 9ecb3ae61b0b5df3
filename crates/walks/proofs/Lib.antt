pub mod Steps
pub mod Ordering
pub mod Filling
