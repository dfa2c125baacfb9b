pub mod EtcPart
pub mod FarmPart
pub mod Lists
pub mod Making
pub mod Prepared
pub mod Runs
pub mod Steps
pub mod Written
