-- The definitions of placing.
pub mod Quota
pub mod Cause
pub mod Allocate
pub mod AllocateCases
pub mod AllocateLaws
pub mod Examples
