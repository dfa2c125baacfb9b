pub mod ExactFields
pub mod Digits
pub mod Targets
pub mod Nodes
