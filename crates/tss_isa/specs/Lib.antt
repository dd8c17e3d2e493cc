pub mod Fields
pub mod InstrTable
