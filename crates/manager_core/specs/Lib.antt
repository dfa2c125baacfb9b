pub mod Call
pub mod Placing
pub mod Reading
pub mod StateText
pub mod UnitLine
