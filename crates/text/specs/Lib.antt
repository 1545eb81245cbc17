-- The laws of a place in lent bytes.
pub mod Places
