-- The definitions of the gang choice, the cause and the choice as a whole.
pub mod Share
pub mod Gang
pub mod Why
pub mod Choose
pub mod Room
pub mod Cases
pub mod WhyCases
pub mod ShareLaws
pub mod GangLaws
pub mod ChooseLaws
