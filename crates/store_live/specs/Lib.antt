pub mod Grown
pub mod Live
pub mod StorePaths
