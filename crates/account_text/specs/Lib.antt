pub mod Field
pub mod Table
pub mod Passwd
pub mod Group
pub mod Shadow
pub mod Order
pub mod Reading
