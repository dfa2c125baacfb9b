pub mod ChainLemmas
pub mod FolderLemmas
pub mod GreatestLemmas
pub mod SearchLemmas
