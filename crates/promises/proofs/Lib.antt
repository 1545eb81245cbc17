-- The theorems on how a run ends.
pub mod RunEnd
pub mod FourthRun
