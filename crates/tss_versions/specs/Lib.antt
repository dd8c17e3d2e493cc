pub mod Known
pub mod Places
pub mod Rows
pub mod Conditions
pub mod Numbers
