-- The definitions of the waiting line, and their laws.
pub mod Line
pub mod Keep
pub mod Turns
