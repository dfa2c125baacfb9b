pub mod PuttingLemmas
