-- The definitions of loading.
pub mod Fault
pub mod FaultLaws
pub mod Tables
pub mod Arrivals
pub mod ArrivalLaws
pub mod Load
pub mod LoadLaws
pub mod FillLaws
