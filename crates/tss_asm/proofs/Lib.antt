pub mod LabelLemmas
pub mod DistanceLemmas
pub mod ItemLemmas
pub mod LayoutLemmas
pub mod ImageLemmas
