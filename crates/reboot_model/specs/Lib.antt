pub mod Rebooting
