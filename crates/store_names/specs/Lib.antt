pub mod Beginnings
pub mod Occurs
