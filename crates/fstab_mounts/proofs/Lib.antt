mod EscapeLemmas
mod FieldLemmas
mod FstabLemmas
