pub mod Escape
pub mod Fields
pub mod Fstab
pub mod FsUnit
