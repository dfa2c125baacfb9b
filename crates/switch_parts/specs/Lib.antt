pub mod Leaves
pub mod Limits
pub mod Part
pub mod Puts
pub mod Quiet
pub mod Store
