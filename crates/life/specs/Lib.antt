-- The definitions of the changes of one job.
pub mod Life
