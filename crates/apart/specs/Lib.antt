-- What preemption, a pass and its starts keep.
pub mod Few
pub mod CandidateLaws
pub mod PrefixLaws
pub mod LineLaws
pub mod KeepLaws
pub mod StartsLaws
pub mod Standing
pub mod Leaving
pub mod Keeps
pub mod VisitLaws
pub mod KeptLaws
pub mod Changes
pub mod Told
pub mod PassLaws
pub mod Examples
