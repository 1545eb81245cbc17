-- The definitions and laws of slices.
pub mod More
pub mod Owner
pub mod OwnerLaws
pub mod Slices
pub mod SlicesLaws
pub mod Table
pub mod TableSteps
pub mod TableLaws
pub mod Allocate
pub mod AllocateLaws
