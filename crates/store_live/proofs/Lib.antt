pub mod DeadLemmas
pub mod GrownLemmas
pub mod PathLemmas
pub mod ReachLemmas
pub mod RootLemmas
pub mod SetLemmas
