pub mod RowsLemmas
pub mod TableLemmas
pub mod PickedLemmas
pub mod FreeLemmas
pub mod StoreLemmas
pub mod SeatsLemmas
