pub mod LongLemmas
pub mod PastLemmas
