-- The definitions of what an event says.
pub mod Happen
