pub mod Laws
pub mod Lengths
pub mod Places
pub mod Standing
pub mod Writing
