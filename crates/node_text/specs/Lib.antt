pub mod Node
pub mod Fields
