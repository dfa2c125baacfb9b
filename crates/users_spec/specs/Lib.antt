pub mod AccountName
pub mod Place
pub mod Fields
pub mod GroupSpec
pub mod UserSpec
pub mod Spec
