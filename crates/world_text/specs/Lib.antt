pub mod Leafless
