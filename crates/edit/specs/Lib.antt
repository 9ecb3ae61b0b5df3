pub mod Edit
pub mod Lent
pub mod Cases
pub mod Change
