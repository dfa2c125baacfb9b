pub mod CleanList
pub mod Etc
pub mod Farm
pub mod Found
pub mod Keeps
pub mod Names
pub mod Obsolete
pub mod Standing
