pub mod Number
pub mod Form
