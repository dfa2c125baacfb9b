pub mod ActivationLemmas
pub mod AgainLemmas
pub mod OwnerLemmas
pub mod PartedLemmas
pub mod QuietLemmas
pub mod RebootLemmas
