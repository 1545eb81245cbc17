-- The definitions and laws of the cluster.
pub mod Gpus
pub mod GpusLaws
pub mod Queue
pub mod QueueLaws
pub mod Usage
pub mod UsageLaws
