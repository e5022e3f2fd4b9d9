pub mod Standing
pub mod Reported
pub mod CarriesLemmas
pub mod JoinsLemmas
pub mod LogFrames
pub mod LogPages
pub mod LatestLemmas
mod RowOrder
mod FineMeters
mod FineRegisters
