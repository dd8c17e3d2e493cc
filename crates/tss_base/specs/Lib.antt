pub mod Range
pub mod Names
pub mod Numbers
pub mod Event
pub mod Kinds
pub mod Changes
pub mod Image
pub mod Machine
