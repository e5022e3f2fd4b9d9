pub mod Refusals
pub mod ValuesLemmas
pub mod ClapTableLemmas
