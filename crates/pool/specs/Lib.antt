pub mod Input
pub mod Lengths
pub mod Arrays
pub mod Sheet
