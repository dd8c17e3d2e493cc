pub mod Finished
pub mod Runs
