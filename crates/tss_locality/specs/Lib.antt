pub mod Agreement
pub mod Extents
pub mod Scopes
pub mod Concerns
pub mod Leaves
pub mod Objects
pub mod Rounds
