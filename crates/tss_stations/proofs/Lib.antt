pub mod ViewLemmas
pub mod RowLemmas
pub mod CountLemmas
pub mod KeptLemmas
pub mod StateLemmas
