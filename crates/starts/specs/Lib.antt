-- The definitions of what follows a pass.
pub mod Turns
pub mod Timeout
pub mod Begin
