pub mod FactsLemmas
pub mod SocketLemmas
pub mod TableLemmas
