pub mod Letters
pub mod Codes
pub mod Kinds
pub mod KindNames
pub mod Kept
