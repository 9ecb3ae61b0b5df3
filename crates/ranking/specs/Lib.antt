pub mod Ranking
pub mod Chains
