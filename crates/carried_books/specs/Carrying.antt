pub mod Adding
pub mod Standings
pub mod Openings
pub mod Commands
pub mod Plans
pub mod Feeding
pub mod Carried
pub mod Recorded
