-- The definitions of small rules on numbers.
pub mod Small
