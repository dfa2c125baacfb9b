pub mod First
pub mod Found
pub mod Put
pub mod Sequence
pub mod Written
pub mod WrittenPlace
