pub mod Flooding
pub mod Numbering
