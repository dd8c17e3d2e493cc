pub mod bound
pub mod progress
pub mod waits
