-- The definitions of first fit, best fit and the choice of one group.
pub mod First
pub mod Group
pub mod Best
pub mod Cases
pub mod Right
pub mod GroupLaws
pub mod BestLaws
