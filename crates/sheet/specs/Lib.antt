pub mod Written
pub mod Writing
pub mod Line
pub mod Parted
pub mod Cases
