pub mod Rows
pub mod Lends
pub mod Table
pub mod TableLends
pub mod NameTableLends
pub mod Seats
pub mod Store
pub mod SeatsLends
