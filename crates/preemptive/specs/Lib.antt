-- The definitions of preemption, and their laws.
pub mod Candidate
pub mod Prefix
pub mod CandidateSteps
pub mod PrefixSteps
