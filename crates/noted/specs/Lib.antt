-- The definitions of the running totals' changes.
pub mod Noted
