pub mod Laws
pub mod Lengths
pub mod Arrays
pub mod Sheet
