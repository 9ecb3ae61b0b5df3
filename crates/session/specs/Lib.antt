pub mod Run
pub mod Runs
pub mod Claim
pub mod Cases
