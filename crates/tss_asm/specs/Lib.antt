pub mod Labels
pub mod Program
pub mod Words
pub mod Image
pub mod Faults
