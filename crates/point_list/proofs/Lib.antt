pub mod ChainLists
pub mod ChainPoints
pub mod ChainTables
pub mod DistinctLemmas
pub mod FaultlessLists
pub mod ListLemmas
pub mod RowFacts
pub mod SixLemmas
pub mod SoundRows
pub mod SpelledLists
pub mod SpelledRows
pub mod TextLemmas
pub mod WrittenFields
pub mod WrittenLists
pub mod WrittenRows
pub mod AnyLemmas
mod Examples
