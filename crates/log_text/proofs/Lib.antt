pub mod BlockLemmas
pub mod LineLemmas
pub mod ReadLemmas
pub mod SomeLemmas
pub mod TornLemmas
pub mod WhichLemmas
