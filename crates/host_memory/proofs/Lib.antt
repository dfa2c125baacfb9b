pub mod Admitted
pub mod Cutting
pub mod Entering
pub mod Histories
pub mod Hosts
pub mod ManagerUndoing
pub mod Undoing
