mod RuleExamples
pub mod Lookups
pub mod Lists
pub mod FoundOpenings
pub mod Journals
pub mod LawfulReadings
pub mod LawfulChanges
pub mod LawfulExchange
pub mod Rounds
pub mod Bounds
pub mod InTurn
pub mod RegisterRows
pub mod Stepping
pub mod GivingWay
pub mod InRange
pub mod Permutations
pub mod SessionLaws
pub mod EndedPolls
pub mod EndedFacts
pub mod LostPolls
pub mod Happenings
pub mod EndedSlots
pub mod OverSlots
pub mod ApartSlots
pub mod QuietFacts
pub mod StartedPolls
pub mod QuietEvents
pub mod EndOnce
pub mod PollsOnce
pub mod Times
pub mod SettledOnce
pub mod DeviceSlots
pub mod OpenPolls
pub mod FittingPolls
mod Names
mod Added
mod KeptFacts
mod Outcomes
mod Taken
mod Corrections
mod Additions
mod Starts
mod Replies
mod LawfulFacts
mod TrueBooks
pub mod Moving
pub mod Handing
pub mod Listing
pub mod Planning
pub mod Filtering
pub mod Pieces
pub mod Within
mod Examples
mod HoldExamples
