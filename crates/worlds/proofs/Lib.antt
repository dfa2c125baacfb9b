pub mod FallenLemmas
pub mod LogLemmas
pub mod NoUnitLemmas
mod Silence
pub mod StageLemmas
