pub mod SheetCheck
pub mod Faults
pub mod Cases
