-- The definitions of a run and of a lent plan: what each call answers, and what it leaves.
pub mod Head
pub mod Run
pub mod RunLaws
pub mod Ran
pub mod TopLaws
pub mod Held
pub mod HeldLaws
pub mod Lent
pub mod LentLaws
