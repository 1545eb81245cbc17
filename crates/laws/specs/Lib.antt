-- General laws on tests, lists and tables that nothing of the planner knows.
pub mod Choice
pub mod Tests
pub mod Lists
pub mod Tables
pub mod Search
pub mod Loop
pub mod Sums
pub mod Greatest
pub mod Sort
pub mod Floats
