-- The definitions of the eligible GPUs.
pub mod More
pub mod Rule
pub mod Chosen
pub mod Keys
pub mod Eligible
pub mod Turns
pub mod Laws
