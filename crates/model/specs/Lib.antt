-- The definitions of the tables.
pub mod Sizes
pub mod Number
pub mod Gpu
pub mod Job
pub mod Event
pub mod Setting
pub mod Totals
pub mod Plan
