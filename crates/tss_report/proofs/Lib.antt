mod SizeLemmas
mod PeakLemmas
mod RowLemmas
mod DigestLemmas
mod ImageLemmas
mod MachineLemmas
