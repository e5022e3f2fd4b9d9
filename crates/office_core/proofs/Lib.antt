pub mod Consulting
pub mod SessionsLemmas
pub mod StartingLemmas
pub mod SettlingLemmas
pub mod CommandsLemmas
pub mod OpeningLemmas
pub mod Left
pub mod Taken
pub mod SeveralAsked
pub mod Reopened
pub mod Summing
pub mod Parts
pub mod Around
pub mod Ranged
pub mod Runs
pub mod Stops
pub mod AddingUp
mod Examples
mod StopExamples
pub mod RefusingLemmas
