mod Grown
mod Texts
mod Writes
mod Made
mod Names
mod Questions
mod Ranges
mod Brought
mod Reported
pub mod DevicesLemmas
pub mod PollsLemmas
mod Examples
pub mod Permuted
pub mod Fresh
pub mod Frames
pub mod Edits
pub mod Laid
pub mod OtherTables
pub mod Inserts
pub mod Scans
pub mod Updates
pub mod Selects
pub mod Apart
pub mod Failures
pub mod StepLemmas
pub mod LookUps
pub mod ReadLemmas
mod Creates
pub mod MetersLemmas
pub mod EntriesLemmas
