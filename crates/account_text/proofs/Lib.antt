pub mod FirstLemmas
pub mod FieldLemmas
pub mod LineLemmas
pub mod RowLemmas
pub mod SoundLemmas
pub mod BackLemmas
pub mod OrderLemmas
pub mod NameLemmas
