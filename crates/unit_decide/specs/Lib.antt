pub mod Decision
pub mod Facts
pub mod Flags
pub mod Kinds
pub mod Sockets
