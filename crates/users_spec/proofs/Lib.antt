pub mod AccountReads
pub mod EachReads
pub mod Handed
pub mod Lists
pub mod SoundReads
pub mod Sound
pub mod Values
