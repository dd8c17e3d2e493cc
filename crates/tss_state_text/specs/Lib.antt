pub mod StateText
pub mod Versions
pub mod Items
