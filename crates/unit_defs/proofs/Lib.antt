pub mod AgreeLemmas
pub mod CountLemmas
mod DropInLemmas
mod FaultLemmas
pub mod FirstFaultLemmas
mod FoundLemmas
pub mod FstabLemmas
pub mod NameLemmas
pub mod NotingLemmas
pub mod OrderLemmas
mod PathLemmas
mod PartLemmas
mod PlaceLemmas
mod ReadingLemmas
mod SearchLemmas
pub mod TakenLemmas
mod TextLemmas
pub mod UnitLemmas
mod WantLemmas
mod WorldLemmas
