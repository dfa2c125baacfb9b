pub mod Activation
pub mod Close
pub mod Collecting
pub mod GenerationList
pub mod Lines
pub mod Report
