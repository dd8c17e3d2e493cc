pub mod Picks
pub mod Goings
pub mod Seeds
pub mod Givens
pub mod Driving
