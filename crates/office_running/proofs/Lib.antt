pub mod Going
pub mod HttpLemmas
