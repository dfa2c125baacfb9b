pub mod Outcomes
pub mod Differing
pub mod WalkLemmas
