-- The definitions of the pass, and their laws.
pub mod Visit
pub mod Walk
pub mod Rank
pub mod Stay
pub mod ReachLaws
pub mod RankLaws
pub mod OverLaws
pub mod StayLaws
