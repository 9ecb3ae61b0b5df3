pub mod Losing
pub mod Withdrawing
