pub mod Free
pub mod Ids
pub mod Json
