pub mod EndLemmas
pub mod FaultLemmas
pub mod IndexLemmas
pub mod KeyLemmas
pub mod LineLemmas
pub mod ReaderLemmas
pub mod TrimLemmas
pub mod ValueLemmas
