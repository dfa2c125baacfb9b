pub mod BesideLemmas
pub mod ContentLemmas
pub mod LengthLemmas
pub mod ListLemmas
pub mod MomentLemmas
pub mod StandingLemmas
pub mod WrittenLemmas
