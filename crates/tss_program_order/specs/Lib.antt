pub mod Refinement
pub mod MainInOrder
