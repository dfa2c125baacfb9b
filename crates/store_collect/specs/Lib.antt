pub mod Again
pub mod Collection
pub mod Kept
pub mod Laws
pub mod Steps
pub mod Unfinished
