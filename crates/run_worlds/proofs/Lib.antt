pub mod FallenLemmas
