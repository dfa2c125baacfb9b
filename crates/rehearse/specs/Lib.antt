pub mod Ends
pub mod Generated
pub mod Rehearsal
pub mod Through
pub mod Troubles
