pub mod Texts
pub mod Spelling
pub mod Accepted
pub mod Departures
pub mod Closed
pub mod Arrays
