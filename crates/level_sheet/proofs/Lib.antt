pub mod Laws
pub mod Faults
pub mod Sheets
