pub mod Order
pub mod Filling
