pub mod BlockLemmas
pub mod SeenLemmas
