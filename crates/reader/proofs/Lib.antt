pub mod Numbers
pub mod Readers
pub mod Forms
