pub mod Place
pub mod Owners
pub mod Companion
pub mod Kind
pub mod Manifest
pub mod Entries
pub mod Count
pub mod Taken
