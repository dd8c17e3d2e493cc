pub mod Tasks
pub mod Workload
pub mod Accepted
pub mod Built
