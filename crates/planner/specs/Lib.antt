-- The definitions of the public face, and their laws.
pub mod Question
pub mod Step
pub mod StepLaws
pub mod Lent
pub mod TopLaws
