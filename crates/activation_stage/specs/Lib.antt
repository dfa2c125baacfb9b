pub mod ActivationPart
pub mod Owners
pub mod Quiet
pub mod Reboot
