pub mod AttemptLemmas
pub mod CutLemmas
pub mod FinishLemmas
pub mod GeneratedLemmas
pub mod HeldLemmas
pub mod RehearsalLemmas
pub mod RepeatableLemmas
pub mod RunLemmas
