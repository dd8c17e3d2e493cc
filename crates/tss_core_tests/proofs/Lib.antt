mod PutLemmas
mod PlainLemmas
mod TaskLemmas
