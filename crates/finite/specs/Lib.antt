pub mod Count
pub mod Search
pub mod Best
pub mod Sets
pub mod Pairs
pub mod Bytes
pub mod Falling
pub mod Edits
