pub mod ChainsLemmas
pub mod ListsLemmas
