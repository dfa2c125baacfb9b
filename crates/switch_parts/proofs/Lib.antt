pub mod Faults
pub mod LeafLemmas
pub mod LongLemmas
pub mod Parts
pub mod QuietLemmas
pub mod StoreLemmas
pub mod TwoPutsLemmas
