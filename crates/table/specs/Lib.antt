pub mod Rule
pub mod Guard
pub mod Table
pub mod Paired
pub mod Size
pub mod Cases
