-- The definitions of a step's decisions.
pub mod Log
pub mod Words
pub mod WordsLaws
