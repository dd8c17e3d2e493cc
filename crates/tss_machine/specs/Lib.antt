pub mod Fault
pub mod Table
pub mod Description
pub mod SelfMachine
