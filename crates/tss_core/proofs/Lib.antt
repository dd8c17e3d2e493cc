pub mod WordsLemmas
pub mod PutLemmas
pub mod KeptLemmas
