pub mod Draws
pub mod Entries
pub mod Machine
pub mod Putting
pub mod Units
pub mod UnitTexts
pub mod Users
