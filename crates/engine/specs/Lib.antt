-- The definitions of a step of the plan, and their laws.
pub mod Settle
pub mod Advance
