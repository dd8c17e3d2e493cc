pub mod Progress
pub mod Bound
pub mod NoFalseWait
