mod RoundExamples
pub mod Absent
pub mod Timely
pub mod Wires
pub mod Nexts
pub mod Reported
pub mod Numbers
pub mod Beyond
pub mod Starts
pub mod OnSession
pub mod Goings
pub mod Holding
pub mod Stages
pub mod Connecting
pub mod Closings
pub mod Overs
pub mod Wholes
pub mod DeviceRoundsLemmas
pub mod DriverLemmas
pub mod Done
pub mod EnteringLemmas
mod Examples
pub mod TextsLemmas
pub mod StatementLemmas
mod MeterSums
