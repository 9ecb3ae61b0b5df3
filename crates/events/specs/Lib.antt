pub mod Turn
pub mod Renew
pub mod Kind
